-- What passing a recording through a queue keeps.
use Rattle.std.specs.Prelude.{◌≡◌, ℕ, ◌+◌, ◌<◌, ◌^◌, ◌⊎◌, Bool, true, List, [], ◌∷◌, ◌++◌, map, length, MatchBool, Ok, Err}
use Rattle.gf.specs.declared.refusal.Refusal.TheVariants.{Full}
use Rattle.sources.specs.Sources.{Offers}
use Rattle.sources.specs.Frames.{whole_frames}
use Rattle.sources.specs.Recordings.{source_of_recording}
use Rattle.sources.specs.Queues.{source_of_queue}
use Rattle.dabframes.specs.declared.passage.Passage.{Passage}

-- the frames that the recording of a passage still gives
abbrev pub to_come : Passage → List (List ℕ)
to_come p = (source_of_recording p.recording).waiting

-- the frames that wait in the queue of a passage, as they were recorded
abbrev pub held : Passage → List (List ℕ)
held p = map (λ frame. frame.now) p.waiting.items

-- What a passage keeps: the bytes that are left hold the frames that the recording still gives; the frames that wait in the queue are those
-- that were recorded; there are 32 places; and no frame that came out has differed.
pub record Steady (frame_length : ℕ) (p : Passage) : Type 0 where
  pub some : 0 < frame_length
  pub recording_length : (source_of_recording p.recording).frame_length ≡ frame_length
  pub queue_length : (source_of_queue p.queue).frame_length ≡ frame_length
  pub rest_is : to_come p ≡ whole_frames frame_length p.rest.now
  pub waiting_is : (source_of_queue p.queue).waiting ≡ held p
  pub gives_back : (source_of_queue p.queue).gives_back ≡ true
  pub places : length (held p) + (source_of_queue p.queue).free ≡ 32
  pub agree : p.tally.differing ≡ 0

-- the frames that came out or were lost, that wait in the queue, or that are still to come
abbrev pub accounted : Passage → ℕ
accounted p = p.tally.came_out + p.tally.lost + length (held p) + length (to_come p)

-- A frame joins the queue; or it is refused since the queue is full, and is counted as lost.
pub record Enqueues (p : Passage) (original frame : List ℕ) (after : Passage) : Type 0 where
  pub recording : after.recording ≡ p.recording
  pub rest : after.rest ≡ p.rest
  pub differing : after.tally.differing ≡ p.tally.differing
  pub came_out : after.tally.came_out ≡ p.tally.came_out
  pub queue : (Offers (source_of_queue p.queue) frame (source_of_queue after.queue) (Ok tt) × (held after ≡ held p ++ original ∷ [])
      × (after.tally.lost ≡ p.tally.lost))
      ⊎ (Offers (source_of_queue p.queue) frame (source_of_queue after.queue) (Err Full) × (held after ≡ held p)
      × (p.tally.lost + 1 < 2 ^ 64 → after.tally.lost ≡ p.tally.lost + 1))

-- So many frames are handed in, with `more`; or the recording has come to its end before.
pub record HandsIn (frame_length count : ℕ) (p after : Passage) (more : Bool) : Type 0 where
  pub steady : Steady frame_length after
  pub accounted_is : accounted after ≡ accounted p
  pub ends : MatchBool more (length (to_come after) + count ≡ length (to_come p)) (to_come after ≡ [])

-- So many frames come out.
pub record TakesOut (frame_length : ℕ) (p after : Passage) (taken : ℕ) : Type 0 where
  pub steady : Steady frame_length after
  pub accounted_is : accounted after ≡ accounted p
  pub to_come_is : to_come after ≡ to_come p
  pub held_is : length (held after) + taken ≡ length (held p)
  pub lost : after.tally.lost ≡ p.tally.lost
