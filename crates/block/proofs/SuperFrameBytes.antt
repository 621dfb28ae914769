-- Bytes behind bytes are bytes, and so are units of bytes with their checks.
use Rattle.std.proofs.Common.{ℕ, zero, suc, ◌<◌, List, [], ◌∷◌, ◌++◌, All, lit<}
use Rattle.std.proofs.lemmas.List.Elements.{All-head, All-tail}
use Rattle.interleaver.specs.Rows.{AreBytes}
use Rattle.block.specs.Checks.{unit_check}
use Rattle.block.specs.SuperFrames.{two_bytes, checked_units}
use Rattle.block.proofs.UnitStarts.{two_bytes_lt, unit_check_lt}

pub bytes-cons : (b : ℕ) (bytes : List ℕ) → b < 256 → AreBytes bytes → AreBytes (b ∷ bytes)
bytes-cons b bytes h hs zero = h
bytes-cons b bytes h hs (suc k) = hs k

pub bytes-append : (a b : List ℕ) → AreBytes a → AreBytes b → AreBytes (a ++ b)
bytes-append [] b h k = k
bytes-append (x ∷ a) b h k = bytes-cons x (a ++ b) (h 0) (bytes-append a b (λ i. h (suc i)) k)

bytes-two_bytes : (w : ℕ) → w < 65536 → AreBytes (two_bytes w)
bytes-two_bytes w h zero = (two_bytes_lt w h).0
bytes-two_bytes w h (suc zero) = (two_bytes_lt w h).1
bytes-two_bytes w h (suc (suc k)) = lit< tt

pub bytes-checked_units : (units : List (List ℕ)) → All AreBytes units → AreBytes (checked_units units)
bytes-checked_units [] h = λ k. lit< tt
bytes-checked_units (unit ∷ units) h =
    bytes-append unit (two_bytes (unit_check unit) ++ checked_units units) (All-head AreBytes unit units h)
    (bytes-append (two_bytes (unit_check unit)) (checked_units units) (bytes-two_bytes (unit_check unit) (unit_check_lt unit))
    (bytes-checked_units units (All-tail AreBytes unit units h)))
