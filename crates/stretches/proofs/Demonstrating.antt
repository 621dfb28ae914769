-- A whole run over an instance of the laws delivers every super frame as it was written.
use Rattle.std.proofs.Common.{◌≡◌, ℕ, zero, suc, ◌+◌, ◌*◌, ◌<◌, Bool, true, false, cond, List, [], ◌∷◌, ◌++◌, length, refl, ap, arith}
use Rattle.reception.specs.Receptions.{Event}
use Rattle.reception.specs.Blocks.{SuperFrame}
use Rattle.reception.specs.Runs.{takes, number_taken}
use Rattle.reception.specs.Recovery.{At, here, there}
use Rattle.stretches.specs.Instances.{count_from, Instance, WholeRun, DeliveredIn, Demonstrated}

pub at_below : {xs : List SuperFrame} {i : ℕ} {x : SuperFrame} → At xs i x → i < length xs
at_below here = omega arith
at_below (there a) = let h = at_below a in omega (arith, h)

-- The event that takes frame n, among events.
pub record Taking (events : List Event) (n : ℕ) : Type 0 where
  pub before : List Event
  pub later : List Event
  pub e : Event
  pub among : events ≡ before ++ e ∷ later
  pub taken : takes e ≡ true
  pub place : number_taken before ≡ n

pub taking : (events : List Event) (n : ℕ) → n < number_taken events → Taking events n
taking [] n h = absurd (omega arith)
taking (x ∷ es) n h = by (takes x) refl n h (λ m less. taking es m less)
  where
    by : (b : Bool) → takes x ≡ b → (n : ℕ) → n < cond (takes x) 1 0 + number_taken es → ((m : ℕ) → m < number_taken es → Taking es m) → Taking (x ∷ es) n
    by true is zero h others = record { before = []; later = es; e = x; among = refl; taken = is; place = refl }
    by true is (suc n) h others =
        let one : cond (takes x) 1 0 ≡ 1 = ap (λ t. cond {A = ℕ} t 1 0) is in
        let t = others n (omega (arith, one, h)) in
        record { before = x ∷ t.before; later = t.later; e = t.e; among = ap (λ l. x ∷ l) t.among; taken = t.taken; place = omega (arith, one, t.place) }
    by false is n h others =
        let none : cond (takes x) 1 0 ≡ 0 = ap (λ t. cond {A = ℕ} t 1 0) is in
        let t = others n (omega (arith, none, h)) in
        record { before = x ∷ t.before; later = t.later; e = t.e; among = ap (λ l. x ∷ l) t.among; taken = t.taken; place = omega (arith, none, t.place) }

pub demonstrated : (size count : ℕ) (bytes : List ℕ) → count ≡ count_from size 0 bytes → Instance size count bytes → WholeRun size bytes
    → Demonstrated size count bytes
demonstrated size count bytes counted instance whole = record { instance = instance; whole = whole; all = all }
  where
    all : {i : ℕ} {w : SuperFrame} → At instance.sent i w → DeliveredIn size w.block whole.events i w
    all {i} {w} a =
        let below : i < count = omega (arith, at_below a, instance.counted) in
        let t = taking whole.events (5 * i + 4) (omega (arith, below, counted, whole.all_taken)) in
        record {
          before = t.before;
          later = t.later;
          e = t.e;
          among = t.among;
          taken = t.taken;
          fifth = t.place;
          as_written = instance.delivered whole.run (whole.undisturbed count) t.before t.later t.e t.among t.taken a t.place;
        }
