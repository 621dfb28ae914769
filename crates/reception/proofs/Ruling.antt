-- From what a call did to the rule that it keeps.
use Rattle.std.proofs.Common.{◌≡◌, ℕ, ◌*◌, ◌≤◌, List, drop, [], ◌∷◌, ◌++◌, length, Result, Ok, subst, sym, ap, ◌∙◌, arith}
use lib.ListN.{length-drop}
use Rattle.gf.specs.declared.refusal.Refusal.{Refusal}
use Rattle.sources.specs.declared.source.Next.{Next}
use Rattle.sources.specs.declared.source.Next.TheVariants.{Frame, NothingWaiting}
use Rattle.sources.specs.Sources.{Source, without_first}
use Rattle.reception.specs.declared.mode.Mode.{Mode}
use Rattle.reception.specs.declared.mode.Mode.TheVariants.{Hunting}
use Rattle.reception.specs.declared.answers.Pulled.{Pulled}
use Rattle.reception.specs.Receptions.{Reception, taking, Event, pulled, restarted, reported}
use Rattle.reception.specs.steps.Holding.{Holding, TakesIn}
use Rattle.reception.specs.Rules.{InFront, with_frame, Rule, restarts, reports}

-- a rule, of a receiver that is the same
pub same_receiver : {r r′ after : Reception} {e : Event} → r ≡ r′ → Rule r e after → Rule r′ e after
same_receiver {after = after} {e = e} same rule = subst (λ r. Rule r e after) same rule

pub restarts_with : (r : Reception) (held : List (List ℕ)) → held ≡ [] → Rule r restarted (record r { mode = Hunting; held = held; misses = 0 })
restarts_with r held none = subst (λ (frames : List (List ℕ)). Rule r restarted (record r { mode = Hunting; held = frames; misses = 0 })) (sym none) restarts

pub reports_with : (r : Reception) (held : ℕ) → held ≡ length r.held
    → Rule r (reported (record { mode = r.mode; held = held; misses = r.misses; patience = r.patience })) r
reports_with r held counted =
    subst (λ (count : ℕ). Rule r (reported (record { mode = r.mode; held = count; misses = r.misses; patience = r.patience })) r) (sym counted) reports

-- a frame was taken, and stands behind those that were held
pub record Took (r : Reception) (source : Source) (held : List (List ℕ)) : Type 0 where
  pub frame : List ℕ
  pub in_front : InFront r frame
  pub source_is : source ≡ without_first r.source
  pub held_is : held ≡ with_frame r frame

pub took : (r : Reception) (before : Holding) (source : Source) (after : Holding) (answer : Result Next Refusal)
    → TakesIn r.source before source after answer → answer ≡ Ok Frame → before.frames ≡ r.held → Took r source after.frames
took r before source after answer takes is held =
    let t : TakesIn r.source before source after (Ok Frame) = subst (TakesIn r.source before source after) is takes in
    record {
      frame = t.0;
      in_front = t.1;
      source_is = t.2;
      held_is = ap (λ (h : Holding). h.frames) t.3 ∙ ap (λ frames. frames ++ t.0 ∷ []) held;
    }

-- the frames keep their length
pub took_length : (s after : Source) (before held : Holding) (answer : Result Next Refusal)
    → TakesIn s before after held answer → answer ≡ Ok Frame → held.frame_length ≡ before.frame_length
took_length s after before held answer takes is =
    let t : TakesIn s before after held (Ok Frame) = subst (TakesIn s before after held) is takes in ap (λ (h : Holding). h.frame_length) t.3

-- none waited
pub none_waits : (s after : Source) (before held : Holding) (answer : Result Next Refusal)
    → TakesIn s before after held answer → answer ≡ Ok NothingWaiting → (s.waiting ≡ []) × (after ≡ s) × (held ≡ before)
none_waits s after before held answer takes is = subst (TakesIn s before after held) is takes

-- a receiver whose parts are as they were
pub unchanged : {r : Reception} {e : Event} (source : Source) (held : List (List ℕ)) → source ≡ r.source → held ≡ r.held → Rule r e r
    → Rule r e (record r { source = source; held = held })
unchanged {r} {e} source held source_is held_is rule =
    subst (λ (s : Source). Rule r e (record r { source = s; held = held })) (sym source_is)
    (subst (λ (h : List (List ℕ)). Rule r e (record r { held = h })) (sym held_is) rule)

-- five frames make a block
pub block_long : (long frames frame_length size : ℕ) → long ≡ frames * frame_length → frames ≡ 5 → frame_length ≡ 24 * size → long ≡ 120 * size
block_long long frames frame_length size is five each =
    is ∙ ap (λ (n : ℕ). n * frame_length) five ∙ ap (λ (n : ℕ). 5 * n) each ∙ (let e : 5 * (24 * size) ≡ 120 * size = omega arith in e)

-- of five frames one goes
pub four_left : (held left : List (List ℕ)) → left ≡ drop 1 held → length held ≡ 5 → length left ≤ 4
four_left held left is five = omega (arith, ap length is ∙ length-drop 1 held, five)

-- what a receiver is once it took a frame, by what its parts are
pub taken_to : {r : Reception} {e : Event} (mode mode′ : Mode) (held held′ : List (List ℕ)) (misses : ℕ) (source : Source)
    → source ≡ without_first r.source → mode′ ≡ mode → held′ ≡ held → Rule r e (taking r mode held misses)
    → Rule r e (record r { source = source; mode = mode′; held = held′; misses = misses })
taken_to {r} {e} mode mode′ held held′ misses source source_is mode_is held_is rule =
    subst (λ (s : Source). Rule r e (record r { source = s; mode = mode′; held = held′; misses = misses })) (sym source_is)
    (subst (λ (m : Mode). Rule r e (taking r m held′ misses)) (sym mode_is)
    (subst (λ (h : List (List ℕ)). Rule r e (taking r mode h misses)) (sym held_is) rule))

-- a pull that leaves its buffer
pub same_buffer : {r after : Reception} {answer : Result Pulled Refusal} (buffer left : List ℕ) → left ≡ buffer
    → Rule r (pulled buffer answer buffer) after → Rule r (pulled buffer answer left) after
same_buffer {r} {after} {answer} buffer left same rule = subst (λ (b : List ℕ). Rule r (pulled buffer answer b) after) (sym same) rule
