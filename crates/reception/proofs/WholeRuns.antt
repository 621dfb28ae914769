-- From the rules one by one to whole runs: where a run stands once it took some frames of a stretch, and what it answers there.
use Rattle.std.proofs.Common.{◌≡◌, ℕ, ◌+◌, ◌-◌, ◌*◌, ◌<◌, ◌≤◌, ◌⊎◌, Bool, true, false, cond, List, [], ◌∷◌, ◌++◌, length, take, drop, sym, refl, ap, ap₂, ◌∙◌, subst, subst₂, inl, inr, length-append, append_assoc, append-nil, arith}
use Rattle.std.proofs.lemmas.Bool.{false_from_ne_true, false≢true}
use Rattle.std.specs.List.{concat}
use Rattle.sources.specs.Sources.{Source}
use Rattle.reception.specs.declared.mode.Mode.TheVariants.{Hunting, Locked}
use Rattle.reception.specs.Receptions.{Reception, Event, patience_set}
use Rattle.reception.specs.Blocks.{IsLegible, IsCleanAndLegible, SuperFrame}
use Rattle.reception.specs.Rules.{InFront, with_frame, Fifth, received, Rule}
use Rattle.reception.specs.Runs.{Run, ends, goes_on, takes, number_taken, frame_taken, frames_taken, accepted_by, accepted, patience_by, patience_after, disturbs, until_taken}
use Rattle.reception.specs.Recovery.{line_of, Stretch, Undisturbed, FifthOf, Keeps, Supposed}
use Rattle.reception.proofs.Lists.{same_head, same_tail, end_of, five_behind}
use Rattle.reception.proofs.Steps.{Holds, holds_none, rule_size, rule_line, rule_number, rule_holds, run_size, run_patience, run_number, run_holds}
use Rattle.reception.proofs.Places.{Five, Placed, Here, rule_keeps, rule_place}

number_push : (es : List Event) (e : Event) → number_taken (es ++ e ∷ []) ≡ number_taken es + cond (takes e) 1 0
number_push [] e = omega arith
number_push (x ∷ es) e = omega (arith, number_push es e)

pub accepted-append : (es others : List Event) → accepted (es ++ others) ≡ accepted es ++ accepted others
accepted-append [] others = refl
accepted-append (e ∷ es) others =
    ap (λ l. accepted_by e ++ l) (accepted-append es others) ∙ sym (append_assoc (accepted_by e) (accepted es) (accepted others))

pub patience_after-append : (p : ℕ) (es others : List Event) → patience_after p (es ++ others) ≡ patience_after (patience_after p es) others
patience_after-append p [] others = refl
patience_after-append p (e ∷ es) others = patience_after-append (patience_by e p) es others

-- With n frames of the stretch taken, no event disturbs but where none is taken yet.
abbrev Quiet : ℕ → List Event → Type 0
Quiet n [] = Unit {0}
Quiet n (e ∷ es) = (disturbs e ≡ true → n ≡ 0) × Quiet (n + cond (takes e) 1 0) es

quiet : (super_frames : ℕ) (future : List Event) → Undisturbed super_frames future
    → (done es rest : List Event) → future ≡ done ++ (es ++ rest) → number_taken done + number_taken es < 5 * super_frames
    → Quiet (number_taken done) es
quiet super_frames future calm done [] rest eq inside = tt
quiet super_frames future calm done (e ∷ es) rest eq inside = (
  λ t. none (calm done (es ++ rest) e eq t),
  subst (λ n. Quiet n es) (number_push done e)
      (quiet super_frames future calm (done ++ e ∷ []) es rest
      (eq ∙ sym (append_assoc done (e ∷ []) (es ++ rest))) (omega (arith, number_push done e))),
)
  where
    none : (number_taken done ≡ 0) ⊎ (5 * super_frames ≤ number_taken done) → number_taken done ≡ 0
    none (inl z) = z
    none (inr over) = absurd (omega arith)

-- what takes a frame, and what does not disturb, leaves the patience
taking_keeps : (e : Event) (p : ℕ) → takes e ≡ true → patience_by e p ≡ p
taking_keeps (patience_set number answer) p t = absurd (false≢true t)
taking_keeps _ p t = refl

pub quiet_keeps : (e : Event) (p : ℕ) → disturbs e ≡ false → patience_by e p ≡ p
quiet_keeps (patience_set number answer) p t = ap (λ b. cond b number p) t
quiet_keeps _ p t = refl

patience_stays : (n : ℕ) (es : List Event) (p : ℕ) → Quiet n es → 1 ≤ n → patience_after p es ≡ p
patience_stays n [] p q some = refl
patience_stays n (e ∷ es) p q some =
    ap (λ k. patience_after k es) (quiet_keeps e p (false_from_ne_true (disturbs e) (λ t. omega (arith, q.0 t))))
    ∙ patience_stays (n + cond (takes e) 1 0) es p q.1 (omega arith)

-- while the stretch is taken, the patience is the last before its first frame
patience_there : (es after : List Event) (e : Event) (p : ℕ) → Quiet 0 es → takes e ≡ true
    → patience_after p es ≡ patience_after p (until_taken (es ++ e ∷ after))
patience_there [] after e p q t = ap (λ b. patience_after p (cond b [] (e ∷ until_taken after))) (sym t)
patience_there (x ∷ es) after e p q t = go (takes x) refl (λ quiet. patience_there es after e (patience_by x p) quiet t)
  where
    go : (b : Bool) → takes x ≡ b
        → (Quiet 0 es → patience_after (patience_by x p) es ≡ patience_after (patience_by x p) (until_taken (es ++ e ∷ after)))
        → patience_after p (x ∷ es) ≡ patience_after p (until_taken ((x ∷ es) ++ e ∷ after))
    go true is next =
        ap (λ k. patience_after k es) (taking_keeps x p is)
        ∙ patience_stays 1 es p (subst (λ b. Quiet (0 + cond b 1 0) es) is q.1) (omega arith)
        ∙ ap (λ b. patience_after p (cond b [] (x ∷ until_taken (es ++ e ∷ after)))) (sym is)
    go false is next =
        next (subst (λ b. Quiet (0 + cond b 1 0) es) is q.1)
        ∙ ap (λ b. patience_after p (cond b [] (x ∷ until_taken (es ++ e ∷ after)))) (sym is)

-- A run, up to one of its events.
record UpTo {r end : Reception} {es : List Event} (run : Run r es end) (before : List Event) (e : Event) : Type 0 where
  now : Reception
  next : Reception
  first : Run r before now
  rule : Rule now e next
  newer : List (List ℕ)
  frames : frames_taken run ≡ frames_taken first ++ (frame_taken now e ++ newer)

up_to : {r end : Reception} {es : List Event} (run : Run r es end) (before after : List Event) (e : Event) → es ≡ before ++ e ∷ after
    → UpTo run before e
up_to ends [] after e eq = cc
up_to ends (b ∷ before) after e eq = cc
up_to (goes_on {r = r} {between = between} rule rest) [] after e eq = record {
  now = r;
  next = between;
  first = ends;
  rule = subst (λ x. Rule r x between) (same_head eq) rule;
  newer = frames_taken rest;
  frames = ap (λ x. frame_taken r x ++ frames_taken rest) (same_head eq);
}
up_to (goes_on {r = r} {between = between} rule rest) (b ∷ before) after e eq =
    let u = up_to rest before after e (same_tail eq) in
    record {
      now = u.now;
      next = u.next;
      first = goes_on (subst (λ x. Rule r x between) (same_head eq) rule) u.first;
      rule = u.rule;
      newer = u.newer;
      frames =
          ap₂ (λ x l. frame_taken r x ++ l) (same_head eq) u.frames
          ∙ sym (append_assoc (frame_taken r b) (frames_taken u.first) (frame_taken u.now e ++ u.newer));
    }

-- whatever five it delivers, a super frame of the stretch ends there
abbrev pub EndsThere : {size : ℕ} {source : Source} {past future : List Event} {sent : List SuperFrame} → Supposed size source past future sent
    → Type 0 → Type 0
EndsThere {size} {source} {past} {future} {sent} r Strays =
    (now : Reception) (frame : List ℕ) (n : ℕ) → now.size ≡ size → n < 5 * length sent → Placed Strays n now → Fifth now
    → Five (line_of r.cut future) (frames_taken r.earlier) (frames_taken r.later) n (with_frame now frame) → IsLegible now.size (received now frame)
    → (now.mode ≡ Locked) ⊎ ((now.mode ≡ Hunting) × IsCleanAndLegible now.size (received now frame)) → (i : ℕ) × FifthOf i n

module _ {size : ℕ} {source : Source} {past future : List Event} {sent : List SuperFrame} (r : Supposed size source past future sent)
    (Strays : Type 0)
    (boundary : EndsThere r Strays) where
  abbrev line : List (List ℕ)
  line = line_of r.cut future

  abbrev old : List (List ℕ)
  old = frames_taken r.earlier

  abbrev new : List (List ℕ)
  new = frames_taken r.later

  -- Frames of the stretch are taken; of the run there is left what `coming` puts into the line, and `going` is taken from it.
  record Stands (now : Reception) (coming going taken : List (List ℕ)) : Type 0 where
    size_is : now.size ≡ size
    line_is : line ≡ taken ++ (now.source.waiting ++ coming)
    new_is : new ≡ taken ++ going
    holds : Holds (old ++ taken) now.held
    place : Placed Strays (length taken) now

  five : {now : Reception} {coming going later taken : List (List ℕ)} {frame : List ℕ} → Stands now coming going taken → InFront now frame
      → going ≡ frame ∷ later → Fifth now
      → Five line old new (length taken) (with_frame now frame)
  five {now} {coming} {going} {later} {taken} {frame} s front next fifth = record {
    older = s.holds.0;
    newer = later;
    all_is =
        ap (λ l. old ++ l) s.new_is ∙ sym (append_assoc old taken going) ∙ ap₂ (λ l m. l ++ m) s.holds.1 next
        ∙ append_assoc s.holds.0 now.held (frame ∷ later) ∙ ap (λ l. s.holds.0 ++ l) (sym (append_assoc now.held (frame ∷ []) later));
    long = long;
    last = length-append s.holds.0 (with_frame now frame) ∙ omega (arith, long, lengths);
    own = λ i f. ap concat (mine i f);
  }
    where
      long : length (with_frame now frame) ≡ 5
      long = length-append now.held (frame ∷ []) ∙ fifth

      lengths : length old + length taken ≡ length s.holds.0 + length now.held
      lengths = sym (length-append old taken) ∙ ap length s.holds.1 ∙ length-append s.holds.0 now.held

      mine : (i : ℕ) → FifthOf i (length taken) → with_frame now frame ≡ take 5 (drop (5 * i) line)
      mine i f =
          let x = end_of old taken s.holds.0 now.held s.holds.1 (omega (arith, lengths)) in
          let long : length x.0 + length now.held ≡ length taken = sym (ap length x.1 ∙ length-append x.0 now.held) in
          let waits : now.source.waiting ++ coming ≡ frame ∷ (drop 1 now.source.waiting ++ coming) = ap (λ l. l ++ coming) front in
          sym (ap (λ l. take 5 (drop (5 * i) l)) (s.line_is ∙ ap₂ (λ l m. l ++ m) x.1 waits)
          ∙ five_behind x.0 now.held frame (drop 1 now.source.waiting ++ coming) (5 * i) (omega arith) fifth)

  here : {number : ℕ} {now : Reception} {e : Event} {coming taken : List (List ℕ)} (later : List (List ℕ))
      → Stands now coming (frame_taken now e ++ later) taken → length taken < 5 * length sent
      → (Strays → number ≡ now.patience) → Here Strays line old new sent number now e (length taken)
  here {number} {now} {e} {coming} {taken} later s inside same = record {
    stretch = subst (λ z. Stretch z line sent) (sym s.size_is) r.stretch;
    inside = inside;
    few = s.holds.2;
    place = s.place;
    same = same;
    sees = λ frame front t fifth. five {later = later} s front
        (ap (λ b. cond b (take 1 now.source.waiting) [] ++ later) t ∙ ap (λ l. take 1 l ++ later) front) fifth;
    boundary = λ frame fifth seen readable found. boundary now frame (length taken) s.size_is inside s.place fifth seen readable found;
  }

  step : {now between : Reception} {e : Event} {coming later taken : List (List ℕ)} → Rule now e between
      → Stands now (accepted_by e ++ coming) (frame_taken now e ++ later) taken
      → length taken < 5 * length sent → (disturbs e ≡ true → length taken ≡ 0) → Stands between coming later (taken ++ frame_taken now e)
  step {now} {between} {e} {coming} {later} {taken} rule s inside calm = record {
    size_is = rule_size rule ∙ s.size_is;
    line_is =
        s.line_is
        ∙ ap (λ l. taken ++ l)
        (sym (append_assoc now.source.waiting (accepted_by e) coming) ∙ ap (λ l. l ++ coming) (rule_line rule)
        ∙ append_assoc (frame_taken now e) between.source.waiting coming)
        ∙ sym (append_assoc taken (frame_taken now e) (between.source.waiting ++ coming));
    new_is = s.new_is ∙ sym (append_assoc taken (frame_taken now e) later);
    holds = subst (λ l. Holds l between.held) (append_assoc old taken (frame_taken now e)) (rule_holds rule (old ++ taken) s.holds);
    place =
        subst (λ n. Placed Strays n between) (sym (length-append taken (frame_taken now e) ∙ ap (λ k. length taken + k) (rule_number rule)))
        (rule_place Strays line old new sent (here {number = now.patience} later s inside (λ _. refl)) calm rule);
  }

  stands_after : {start now : Reception} {es : List Event} {coming later taken : List (List ℕ)} (run : Run start es now)
      → Stands start (accepted es ++ coming) (frames_taken run ++ later) taken → length taken + number_taken es < 5 * length sent
      → Quiet (length taken) es
      → Stands now coming later (taken ++ frames_taken run)
  stands_after {start = start} {coming = coming} {later = later} {taken = taken} ends s inside calm =
      subst (λ l. Stands start coming later l) (sym (append-nil taken)) s
  stands_after {now = now} {coming = coming} {later = later} {taken = taken} (goes_on {r = before} {e = e} {es = es} rule rest) s inside calm =
      let inside_now : length taken < 5 * length sent = omega arith in
      let longer : length (taken ++ frame_taken before e) ≡ length taken + cond (takes e) 1 0 =
      length-append taken (frame_taken before e) ∙ ap (λ k. length taken + k) (rule_number rule) in
      let stepped = step rule
      (subst₂ (λ l m. Stands before l m taken) (append_assoc (accepted_by e) (accepted es) coming)
      (append_assoc (frame_taken before e) (frames_taken rest) later) s)
      inside_now calm.0 in
      subst (λ l. Stands now coming later l) (append_assoc taken (frame_taken before e) (frames_taken rest))
      (stands_after rest stepped (omega arith) (subst (λ n. Quiet n es) (sym longer) calm.1))

  -- What the event answers that takes a frame of the stretch.
  pub keeps : (length r.cut.held ≤ 4 → Placed Strays 0 r.cut) → (number : ℕ) → (Strays → number ≡ patience_after 3 (past ++ until_taken future))
      → (before after : List Event) (e : Event) → future ≡ before ++ e ∷ after → takes e ≡ true → number_taken before < 5 * length sent
      → Keeps size (number - 1) line sent (number_taken before) e
  keeps start number same before after e eq t inside =
      subst₂ (λ z n. Keeps z (number - 1) line sent n e) there.size_is (run_number u.first)
      (rule_keeps Strays line old new sent
      (here {number = number} u.newer there inside_now (λ strays. same strays ∙ sym patience)) u.rule t)
    where
      u : UpTo r.later before e
      u = up_to r.later before after e eq

      held : Holds old r.cut.held
      held = run_holds r.earlier [] (holds_none [])

      calm : Quiet 0 before
      calm = quiet (length sent) future r.undisturbed [] before (e ∷ after) eq (omega arith)

      inside_now : length (frames_taken u.first) < 5 * length sent
      inside_now = omega (arith, run_number u.first)

      there : Stands u.now (accepted_by e ++ accepted after) (frame_taken u.now e ++ u.newer) (frames_taken u.first)
      there = stands_after u.first
          (record {
            size_is = run_size r.earlier;
            line_is = ap (λ l. r.cut.source.waiting ++ l) (ap accepted eq ∙ accepted-append before (e ∷ after));
            new_is = u.frames;
            holds = subst (λ l. Holds l r.cut.held) (sym (append-nil old)) held;
            place = start held.2;
          }) (omega arith) calm

      patience : u.now.patience ≡ patience_after 3 (past ++ until_taken future)
      patience =
          run_patience u.first
          ∙ ap (λ p. patience_after p before) (run_patience r.earlier)
          ∙ patience_there before after e (patience_after 3 past) calm t
          ∙ ap (λ l. patience_after (patience_after 3 past) (until_taken l)) (sym eq)
          ∙ sym (patience_after-append 3 past (until_taken future))
