use Rattle.std.proofs.Common.{arith, ◌≡◌, ◌+◌, ◌-◌, ◌++◌, ◌∙◌, ap, ap₂, sym, length, ℕ}
use Rattle.il_script.specs.Sheet.{Sheet}
use Rattle.host_model.specs.Replies.{guest_line}
use Rattle.il_host.proofs.Statuses.{line_left, line_put, lines_to}
use Rattle.il_host.proofs.loop_texts.put_statuses.Goals.{then-address-own, else-address-own}
use Rattle.il_host.proofs.loop_texts.put_statuses.Goals as goal

pub loop-address-preserved : goal.loop-address-preserved
loop-address-preserved c =
    let own = c.args.own in
    let log = c.args.log.now in
    let first = c.args.page.now.text in
    let before = c.loop-address.page in
    let a : ℕ = c.loop-address.address in
    let held = c.loop-address.invariant in
    let here : a ≡ a - 1 + 1 = omega (arith, held.first) in
    let next : a + 1 - 1 ≡ a = omega arith in
    elim c.if-address-own.branch [
      | then-address-own w ↦ record {
        text = ap (λ (p : Sheet). p.text) w.page-is
            ∙ line_put own log (a - 1) a first before.text w.put_guest.new.page.text here w.if-address-own.true held.text (ap (λ (p : Sheet). p.text) w.put_guest.ensures.text ∙ ap (λ status. before.text ++ guest_line a status) w.last_status.ensures)
            ∙ ap (λ (n : ℕ). first ++ lines_to own log n) (sym next);
        room = ap (λ (p : Sheet). p.room) w.page-is ∙ ap (λ (p : Sheet). p.room) w.put_guest.ensures.text ∙ held.room;
        size = omega (arith, ap (λ (p : Sheet). length p.text) w.page-is, w.put_guest.ensures.size, held.size);
        first = omega (arith, held.first);
        within = omega (arith, c.loop-address-test.true);
      }
      | else-address-own w ↦ record {
        text = ap (λ (p : Sheet). p.text) w.page-is ∙ line_left own log (a - 1) a first before.text here w.if-address-own.false held.text
            ∙ ap (λ (n : ℕ). first ++ lines_to own log n) (sym next);
        room = ap (λ (p : Sheet). p.room) w.page-is ∙ held.room;
        size = omega (arith, ap (λ (p : Sheet). length p.text) w.page-is, held.size);
        first = omega (arith, held.first);
        within = omega (arith, c.loop-address-test.true);
      }
    ]

pub returns-clause-text : goal.returns-clause-text
returns-clause-text c =
    let held = c.loop-address.invariant in
    let all : c.loop-address.address - 1 ≡ c.args.last = omega (arith, held.within, c.loop-address-test.false) in
    ap₂ (λ t (r : ℕ). record { text = t; room = r }) (held.text ∙ ap (λ (n : ℕ). c.args.page.now.text ++ lines_to c.args.own c.args.log.now n) all) held.room
