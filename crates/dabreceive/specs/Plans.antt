-- Which calls are made.
use Rattle.std.specs.Prelude.{◌≡◌, ℕ, ◌+◌, ◌*◌, min, List, [], ◌∷◌, ◌++◌, map, take, drop, Option, Some, None}
use Rattle.std.specs.List.{flat_map}
use Rattle.sources.specs.Frames.{whole_frames}
use Rattle.reception.specs.declared.calls.Call.{Call}
use Rattle.reception.specs.declared.calls.Call.TheVariants as calls
use Rattle.dabreceive.specs.declared.plan.ScriptCalls.{ScriptCalls}
use Rattle.dabreceive.specs.declared.script.Command.{Command}
use Rattle.dabreceive.specs.declared.script.Command.TheVariants as commands

-- What a call asks a receiver.
pub data Question : Type 0 where
  -- to take the next frame, with a buffer of so many bytes
  pull : ℕ → Question
  -- to put these bytes into its source
  offer : List ℕ → Question
  reset : Question
  patience : ℕ → Question
  report : Question

abbrev pub question : Call → Question
question (calls.Pull long) = pull long
question (calls.Offer frame) = offer frame.now
question calls.Reset = reset
question (calls.Patience number) = patience number
question calls.Report = report

-- the patience first, where it is given
abbrev pub first_questions : Option ℕ → List Question
first_questions None = []
first_questions (Some number) = patience number ∷ []

-- each whole frame of a recording is offered, and then one is taken, with a buffer for a block
abbrev pub replay_questions : ℕ → List ℕ → List Question
replay_questions size recording = flat_map (λ frame. offer frame ∷ pull (120 * size) ∷ []) (whole_frames (24 * size) recording)

-- what a line of a script asks, while these frames of the recording are left; a buffer that is too long is one byte too long
abbrev pub line_questions : ℕ → Command → List (List ℕ) → List Question
line_questions size commands.Pull frames = pull (120 * size) ∷ []
line_questions size (commands.PullInto long) frames = pull (min long (120 * size + 1)) ∷ []
line_questions size (commands.OfferFrames count) frames = map offer (take count frames)
line_questions size (commands.OfferBytes bytes) frames = offer bytes.items ∷ []
line_questions size commands.Reset frames = reset ∷ []
line_questions size (commands.Patience number) frames = patience number ∷ []
line_questions size commands.Report frames = report ∷ []

-- the frames of the recording that are left behind a line
abbrev pub left_behind : Command → List (List ℕ) → List (List ℕ)
left_behind commands.Pull frames = frames
left_behind (commands.PullInto long) frames = frames
left_behind (commands.OfferFrames count) frames = drop count frames
left_behind (commands.OfferBytes bytes) frames = frames
left_behind commands.Reset frames = frames
left_behind (commands.Patience number) frames = frames
left_behind commands.Report frames = frames

-- what the lines of a script ask, one after another
abbrev pub script_questions : ℕ → List Command → List (List ℕ) → List Question
script_questions size [] frames = []
script_questions size (command ∷ commands) frames =
    line_questions size command frames ++ script_questions size commands (left_behind command frames)

-- the frames of the recording that are left while the calls of a script are gathered
abbrev pub frames_left : ScriptCalls → List (List ℕ)
frames_left s = whole_frames (24 * s.size) s.rest.now

-- Calls are added that ask these questions, and these frames are left then.
pub record Adds (s : ScriptCalls) (questions : List Question) (frames : List (List ℕ)) (after : ScriptCalls) : Type 0 where
  pub size : after.size ≡ s.size
  pub asked : map question after.calls.items ≡ map question s.calls.items ++ questions
  pub left : frames_left after ≡ frames
