-- The seventeen refusals: number, word, layer, place, what is shown of each, and which one a call answers.
use Rattle.std.specs.Prelude.{◌≡◌, ℕ, Bool, cond, not, ◌&&◌, List, [], ◌∷◌, ◌++◌, Some, None, Ok, Err, Option, Result, MatchResult, nat_le, codes, decimal}
use Rattle.gf.specs.declared.refusal.Refusal.{Refusal}
use Rattle.gf.specs.declared.refusal.Refusal.TheVariants.{Size, Buffer, Settings, UnitLength, Overfull, Unfinished, Shape, BeyondRepair, Fire, Parameters, Alignment, Starts, Index, UnitCheck, FrameLength, Full, Patience}
use Rattle.gf.specs.declared.refusal.Layer.{Layer}
use Rattle.gf.specs.declared.refusal.Layer.TheVariants.{Arguments, Source, Row, Header, Unit}

pub record Entry : Type 0 where
  pub number : ℕ
  pub word : List ℕ
  pub layer : Layer
  -- what the refusal speaks of: the parameter byte, the header's last byte, a start, a unit; else 0
  pub place : ℕ

abbrev pub entry : Refusal → Entry
entry Size = record { number = 1; word = codes "size"; layer = Arguments; place = 0 }
entry Buffer = record { number = 2; word = codes "buffer"; layer = Arguments; place = 0 }
entry Settings = record { number = 3; word = codes "settings"; layer = Arguments; place = 0 }
entry UnitLength = record { number = 4; word = codes "unit length"; layer = Arguments; place = 0 }
entry Overfull = record { number = 5; word = codes "overfull"; layer = Arguments; place = 0 }
entry Unfinished = record { number = 6; word = codes "unfinished"; layer = Arguments; place = 0 }
entry Shape = record { number = 7; word = codes "shape"; layer = Arguments; place = 0 }
entry BeyondRepair = record { number = 8; word = codes "beyond repair"; layer = Row; place = 0 }
entry Fire = record { number = 9; word = codes "Fire"; layer = Header; place = 0 }
entry Parameters = record { number = 10; word = codes "parameters"; layer = Header; place = 2 }
entry (Alignment byte) = record { number = 11; word = codes "alignment"; layer = Header; place = byte }
entry (Starts number) = record { number = 12; word = codes "starts"; layer = Header; place = number }
entry Index = record { number = 13; word = codes "index"; layer = Arguments; place = 0 }
entry (UnitCheck unit) = record { number = 14; word = codes "unit check"; layer = Unit; place = unit }
entry FrameLength = record { number = 15; word = codes "frame length"; layer = Source; place = 0 }
entry Full = record { number = 16; word = codes "full"; layer = Source; place = 0 }
entry Patience = record { number = 17; word = codes "patience"; layer = Arguments; place = 0 }

-- the number of a layer
abbrev pub rank : Layer → ℕ
rank Arguments = 0
rank Source = 1
rank Row = 2
rank Header = 3
rank Unit = 4

-- as in "refused 12 starts, layer 3, place 1"
abbrev pub display : Refusal → List ℕ
display r =
    codes "refused " ++ (decimal (entry r).number ++ (codes " " ++ ((entry r).word ++ (codes ", layer " ++ (decimal (rank (entry r).layer)
    ++ (codes ", place " ++ decimal (entry r).place))))))

-- the first refusal whose condition holds, or else the value
abbrev pub unless : {A : Type 0} → List (Bool × Refusal) → A → Result A Refusal
unless [] value = Ok value
unless (c ∷ cs) value = cond c.0 (Err c.1) (unless cs value)

-- the first of the refusals whose condition holds
abbrev pub first_refusal : List (Bool × Refusal) → Option Refusal
first_refusal [] = None
first_refusal (c ∷ cs) = cond c.0 (Some c.1) (first_refusal cs)

-- The first refusal whose condition holds is answered; or none holds, and the value is as it should be.
abbrev pub Answers : {A : Type 0} → List (Bool × Refusal) → (A → Type 0) → Result A Refusal → Type 0
Answers complaints Right answer =
    MatchResult answer (λ value. (first_refusal complaints ≡ None) × Right value) (λ refusal. first_refusal complaints ≡ Some refusal)

-- As `Answers`, of a call that changes something: a refusal changes nothing.
abbrev pub Performs : {A : Type 0} → List (Bool × Refusal) → (A → Type 0) → Type 0 → Result A Refusal → Type 0
Performs complaints Done Unchanged answer =
    MatchResult answer (λ value. (first_refusal complaints ≡ None) × Done value)
    (λ refusal. (first_refusal complaints ≡ Some refusal) × Unchanged)

-- the refusal of every call that is given a size: it is not 1 to 24; then others
abbrev pub of_size : ℕ → List (Bool × Refusal) → List (Bool × Refusal)
of_size size others = (not (nat_le 1 size && nat_le size 24), Size) ∷ others
