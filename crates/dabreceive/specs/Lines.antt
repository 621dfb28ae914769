-- How many calls the lines of a script still wait for.
use Rattle.std.specs.Prelude.{ℕ, ◌+◌}
use Rattle.std.specs.List.{sum_by}
use Rattle.dabreceive.specs.declared.lines.ScriptLines.{ScriptLines}

-- the calls to come of lines, and those before that belong to no line
abbrev pub calls_to_come : ScriptLines → ℕ
calls_to_come s = s.before + sum_by (λ line. line.to_come) s.lines.items
