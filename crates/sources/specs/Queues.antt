-- What a queue means, and what checking and making one answer.
use Rattle.std.specs.Prelude.{ℕ, ◌+◌, ◌*◌, ◌/◌, Bool, true, cond, not, List, [], ◌∷◌, length, is_none, nat_lt, ◌==◌}
use Rattle.gf.specs.declared.refusal.Refusal.{Refusal}
use Rattle.gf.specs.declared.refusal.Refusal.TheVariants.{Buffer}
use Rattle.gf.specs.Refusals.{first_refusal, of_size}
use Rattle.sources.specs.declared.queue.FrameQueue.{FrameQueue}
use Rattle.sources.specs.Sources.{Source}
use Rattle.sources.specs.Frames.{ring_frames}

-- a source in which these frames wait and so many places are free; places are given back
abbrev pub queue_source : ℕ → List (List ℕ) → ℕ → Source
queue_source frame_length frames free = record { frame_length = frame_length; waiting = frames; free = free; gives_back = true }

-- bytes in each frame of a queue: each place is a 32nd of the buffer; without a place there are none
abbrev pub queue_frame_length : FrameQueue → ℕ
queue_frame_length q = cond (nat_lt 0 (q.ring.occupied + q.ring.free)) (length q.buffer.now / 32) 0

-- what a queue means
abbrev pub source_of_queue : FrameQueue → Source
source_of_queue q =
    queue_source (queue_frame_length q) (ring_frames (queue_frame_length q) q.ring.first q.ring.occupied q.buffer.now) q.ring.free

-- the bytes that it was lent to keep frames in: its whole buffer
abbrev pub memory_of_queue : FrameQueue → List ℕ
memory_of_queue q = q.buffer.now

-- the refusals of checking a queue, each with its condition: the size; or the buffer has not 768 bytes times the size
abbrev pub queue_complaints : ℕ → List ℕ → List (Bool × Refusal)
queue_complaints size buffer = of_size size ((not (length buffer == 768 * size), Buffer) ∷ [])

-- A new queue has 32 free places for frames of 24 bytes times the size. Where the check refuses, it has none, and its frames have no bytes.
abbrev pub new_queue : ℕ → List ℕ → Source
new_queue size buffer =
    cond (is_none (first_refusal (queue_complaints size buffer))) (queue_source (24 * size) [] 32) (queue_source 0 [] 0)
