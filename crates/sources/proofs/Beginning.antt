-- How a queue begins.
use Rattle.std.proofs.Common.{◌≡◌, ℕ, ◌*◌, ◌≤◌, le-leb, eq-eqb, List, [], length, refl}
use Rattle.sources.specs.Queues.{queue_source, new_queue}

-- A new queue in a buffer of the right length is empty, and all its places are free.
pub empty_queue : (size : ℕ) (buffer : List ℕ) → 1 ≤ size → size ≤ 24 → length buffer ≡ 768 * size
    → new_queue size buffer ≡ queue_source (24 * size) [] 32
empty_queue size buffer least most long =
    rw (le-leb 1 size least, le-leb size 24 most, eq-eqb (length buffer) (768 * size) long) refl
