-- What a recording means.
use Rattle.std.specs.Prelude.{ℕ, false, List}
use Rattle.sources.specs.declared.recording.Recording.{Recording}
use Rattle.sources.specs.Sources.{Source}
use Rattle.sources.specs.Frames.{whole_frames}

-- a source in which the whole frames of these bytes wait; no place is free, and none is given back
abbrev pub recording_source : ℕ → List ℕ → Source
recording_source frame_length bytes =
    record { frame_length = frame_length; waiting = whole_frames frame_length bytes; free = 0; gives_back = false }

-- what a recording means
abbrev pub source_of_recording : Recording → Source
source_of_recording r = recording_source r.frame_length r.rest.now
