use Rattle.std.proofs.Common.{rules, ◌*◌, ◌++◌, List, ℕ, refl, inr, sym, ap₂, ◌∙◌}
use Rattle.std.proofs.lemmas.List.{take-append-drop}
use Rattle.reception.specs.declared.calls.Call.TheVariants.{Offer}
use Rattle.dabreceive.proofs.Planning.{no_frames, next_added, none_added}
use Rattle.dabreceive.proofs.plan.ScriptCalls.offer_next.Goals as goal

pub returns-in_ok-push-in-Some-clause-adds : goal.returns-in_ok-push-in-Some-clause-adds
returns-in_ok-push-in-Some-clause-adds c =
    let s = c.args.self.now in
    let cut = c.in-Some.ensures.cases in
    next_added s (record { size = s.size; calls = c.push.new.self; rest = c.in-Some.rest }) c.in-Some.frame.now (Offer c.in-Some.frame) (search rules) refl
    (sym (take-append-drop c.frame_length.result s.rest.now) ∙ ap₂ (λ (front : List ℕ) (back : List ℕ). front ++ back) (sym cut.1) (sym cut.2))
    (cut.3 ∙ c.frame_length.ensures) c.in_ok-push-in-Some.ensures.items refl

pub returns-in-None-clause-adds : goal.returns-in-None-clause-adds
returns-in-None-clause-adds c = none_added c.args.self.now (no_frames (24 * c.args.self.now.size) c.args.self.now.rest.now (search rules))

pub returns-in-None-clause-ends : goal.returns-in-None-clause-ends
returns-in-None-clause-ends c = inr (no_frames (24 * c.args.self.now.size) c.args.self.now.rest.now (search rules))
