-- The line is served.
use Rattle.std.proofs.Common.{◌≡◌, ℕ, ◌<◌, true, List, length, refl, sym, ap, ◌∙◌, length-append, arith}
use Rattle.gf.specs.Refusals.{first_refusal}
use Rattle.reception.specs.Receptions.{Reception, pull_complaints, Event, pull, asked_by}
use Rattle.reception.specs.Rules.{Ready, Rule, pull_refused, nothing_waits, passes_on, restarts, sets_patience, keeps_patience, reports}
use Rattle.reception.specs.Runs.{takes, frames_taken}
use Rattle.reception.specs.Service.{LineServed}
use Rattle.reception.proofs.NotRefused.{not_both}
use Rattle.reception.proofs.Steps.{run_line, run_number}

same_buffer : {lent buffer : List ℕ} → pull lent ≡ pull buffer → lent ≡ buffer
same_buffer same = cc

rule_served : {r after : Reception} {e : Event} {buffer : List ℕ} → Rule r e after → asked_by e ≡ pull buffer → Ready r buffer
    → 0 < length r.source.waiting
    → takes e ≡ true
rule_served {buffer = buffer} (pull_refused {r = r} {refusal = refusal} refused) same ready some =
    not_both (first_refusal (pull_complaints r buffer)) refusal ready
    (ap (λ b. first_refusal (pull_complaints r b)) (sym (same_buffer same)) ∙ refused)
rule_served (nothing_waits _ none) same ready some = absurd (omega (arith, ap length none))
rule_served (passes_on _) same ready some = cc
rule_served restarts same ready some = cc
rule_served (sets_patience _) same ready some = cc
rule_served (keeps_patience _) same ready some = cc
rule_served reports same ready some = cc
rule_served _ same ready some = refl

pub line_served : LineServed
line_served before cut now after e buffer later rule same ready some =
    rule_served rule same ready
    (omega (arith, run_number later, ap length (run_line later), length-append (frames_taken later) now.source.waiting))
