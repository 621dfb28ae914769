-- What a tally says when all is well.
use Rattle.std.specs.Prelude.{◌≡◌, ◌≤◌, ℕ, ◌+◌, true}
use Rattle.dabframes.specs.declared.tally.Tally.{Tally}

-- Each of so many frames came out or was lost, each that came out is as it was recorded, and none is missing.
pub record AllAgree (frames : ℕ) (t : Tally) : Type 0 where
  pub counted : t.came_out + t.lost ≡ frames
  pub left : t.left_over ≤ t.came_out
  pub agree : t.differing ≡ 0
  pub complete : t.complete ≡ true
