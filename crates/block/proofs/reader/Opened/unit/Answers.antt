use Rattle.std.proofs.Common.{◌≡◌, ℕ, ◌+◌, ◌-◌, ◌*◌, eqb, true, false, get_or, take, drop, Ok, sym, ap, ◌∙◌, ap₂, arith, ne_eqb, eq-eqb}
use Rattle.block.specs.Checks.{unit_check}
use Rattle.block.specs.Headers.{unit_at, check_fits}
use Rattle.block.proofs.Units.{found, check_fits_is, unit_refused, front_part, back_part}
use Rattle.block.proofs.reader.Opened.unit.Goals.{After-from_be_bytes}
use Rattle.block.proofs.reader.Opened.unit.Goals as goal

present : (c : After-from_be_bytes) → Ok c.in_ok-place.field-0 ≡ unit_at c.args.self.now.header c.args.n
present c = sym c.in_ok-place.was ∙ c.unit.ensures

-- the unit with its check, as it is cut out
cut : (c : After-from_be_bytes)
    → take (c.in_ok-place.field-0.place + c.in_ok-place.field-0.length + 2 - c.in_ok-place.field-0.place) (drop c.in_ok-place.field-0.place c.args.block.now)
    ≡ take (c.in_ok-place.field-0.length + 2) (drop c.in_ok-place.field-0.place c.args.block.now)
cut c =
    let unit = c.in_ok-place.field-0 in
    ap (λ (k : ℕ). take k (drop unit.place c.args.block.now)) (let e : unit.place + unit.length + 2 - unit.place ≡ unit.length + 2 = omega arith in e)

fits : (c : After-from_be_bytes) → eqb c.unit_check.result c.from_be_bytes.result ≡ check_fits c.args.self.now.header c.args.block.now c.args.n
fits c =
    let block = c.args.block.now in
    let unit = c.in_ok-place.field-0 in
    check_fits_is c.args.self.now.header block c.args.n unit (present c) c.unit_check.result c.from_be_bytes.result
    (c.unit_check.ensures ∙ ap unit_check (c.split_at.ensures.front ∙ ap (take unit.length) (cut c) ∙ front_part block unit.place unit.length))
    (c.from_be_bytes.ensures ∙ ap (λ bs. get_or bs 0 0 * 256 + get_or bs 1 0) (c.split_at.ensures.back ∙ ap (drop unit.length) (cut c))
    ∙ back_part block unit.place unit.length)

pub returns-then-unit_check-from_be_bytes : goal.returns-then-unit_check-from_be_bytes
returns-then-unit_check-from_be_bytes c =
    let k = (goal.at.returns-then-unit_check-from_be_bytes c).After-from_be_bytes in
    unit_refused c.args.self.now.header c.args.block.now c.args.n c.in_ok-place.field-0 (present k) c.in_ok-check_buffer.ensures false
    (sym (fits k) ∙ ne_eqb c.unit_check.result c.from_be_bytes.result c.if-unit_check-from_be_bytes.true)

pub returns : goal.returns
returns c =
    let k = (goal.at.returns c).After-from_be_bytes in
    let h = c.args.self.now.header in
    let block = c.args.block.now in
    let unit = c.in_ok-place.field-0 in
    let f = found h block c.args.n unit (present k) in
    let here : unit.length ≡ get_or h.starts (c.args.n + 1) 0 - 2 - get_or h.starts c.args.n 0 = omega (arith, f) in (
      unit_refused h block c.args.n unit (present k) c.in_ok-check_buffer.ensures true
          (sym (fits k) ∙ eq-eqb c.unit_check.result c.from_be_bytes.result c.if-unit_check-from_be_bytes.false),
      (
        f.1,
        c.split_at.ensures.front ∙ ap (take unit.length) (cut k) ∙ front_part block unit.place unit.length
            ∙ ap₂ (λ (j at : ℕ). take j (drop at block)) here f.1,
      ),
    )
