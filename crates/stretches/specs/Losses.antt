-- Runs in which super frames are lost: the receiver is locked to a boundary that is none when a stretch begins.
use Rattle.std.specs.Prelude.{◌≡◌, ℕ, ◌+◌, ◌-◌, ◌*◌, ◌≤◌, List, [], ◌++◌, length, take, drop}
use Rattle.std.specs.List.{count_by}
use Rattle.interleaver.specs.Rows.{wrong}
use Rattle.sources.specs.Frames.{whole_frames}
use Rattle.sources.specs.Queues.{queue_source}
use Rattle.reception.specs.declared.mode.Mode.TheVariants.{Locked}
use Rattle.reception.specs.Receptions.{Event}
use Rattle.reception.specs.Blocks.{SuperFrame}
use Rattle.reception.specs.Runs.{frames_taken, accepted, patience_after, until_taken, is_delivery}
use Rattle.reception.specs.Recovery.{At, NoOtherLegible, Supposed}
use Rattle.stretches.specs.Instances.{five_frames, DeliveredIn}

-- A run over an empty queue into which the whole frames of a recording were put, those before frame `start` before the cut and all others
-- behind it. It meets what the law of recovery supposes, and exactly as many super frames are lost as the law allows.
pub record LosesAndIsBack (size patience start wrong_bytes count : ℕ) (bytes : List ℕ) : Type 0 where
  pub past : List Event
  pub future : List Event
  -- what was put in before the cut, and behind it
  pub put_in_before : accepted past ≡ take start (whole_frames (24 * size) bytes)
  pub put_in_behind : accepted future ≡ drop start (whole_frames (24 * size) bytes)
  -- so many super frames were sent, and each came with so many bytes wrong
  pub sent : List SuperFrame
  pub counted : length sent ≡ count
  pub in_place : {i : ℕ} {written : SuperFrame} → At sent i written → wrong (five_frames size bytes (start + 5 * i)) written.block ≡ wrong_bytes
  -- what the law supposes
  pub supposed : Supposed size (queue_source (24 * size) [] 32) past future sent
  pub no_other_legible : NoOtherLegible size count (frames_taken supposed.earlier) (frames_taken supposed.later)
  -- At the cut the receiver is locked, and is amid five frames: so these end with no super frame of the stretch.
  pub locked : supposed.cut.mode ≡ Locked
  pub amid : 1 ≤ length supposed.cut.held
  -- no frame of the stretch waits yet
  pub none_waits : supposed.cut.source.waiting ≡ []
  pub patience_is : patience_after 3 (past ++ until_taken future) ≡ patience
  -- Each super frame from number `patience - 1` on is delivered as it was written, and nothing else is delivered.
  pub back : {i : ℕ} {written : SuperFrame} → At sent i written → patience - 1 ≤ i
      → DeliveredIn size (five_frames size bytes (start + 5 * i)) future i written
  pub lost : count_by is_delivery future + (patience - 1) ≡ count
