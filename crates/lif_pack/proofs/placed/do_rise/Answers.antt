use Rattle.std.proofs.Common.{◌≡◌, ◌<◌, ◌+◌, ℕ, [], true, false, ap, arith, get_or, map, sym, ◌∙◌, subst, inl, inr}
use Rattle.std.proofs.lemmas.Bool.{cases_lt}
use Rattle.std.proofs.lemmas.List.{length-map}
use Rattle.lif_model.specs.Directory.{start_of}
use Rattle.lif_model.specs.Legal.{occupies}
use Rattle.lif_dir.specs.Entries.{slot_bytes}
use Rattle.lif_pack.specs.Steps.{HasPlainStart}
use Rattle.lif_pack.proofs.Walking.{RiseTo, rise_skips, rise_goes_on, rise_all, rise_not}
use Rattle.lif_pack.proofs.placed.do_rise.Goals.{then-occupies+else-start-bound, else-occupies}
use Rattle.lif_pack.proofs.placed.do_rise.Goals as goal

pub returns-then-start-bound-clause-rise : goal.returns-then-start-bound-clause-rise
returns-then-start-bound-clause-rise c =
    let slots = map slot_bytes c.args.slots.now.slots in
    let on : occupies (get_or slots c.loop-k.k []) ≡ true = sym (ap occupies c.entry-entry.ensures) ∙ sym c.occupies.ensures.value ∙ c.if-occupies.true in
    sym (rise_not slots c.loop-k.k c.loop-k.bound c.loop-k.invariant.rises (omega (arith, length-map c.args.slots.now.slots slot_bytes)) on
    (omega (arith, c.if-start-bound.true, c.start_of.ensures, ap start_of c.entry-entry.ensures)))

pub returns-clause-rise : goal.returns-clause-rise
returns-clause-rise c =
    let slots = map slot_bytes c.args.slots.now.slots in
    sym (rise_all slots c.loop-k.k c.loop-k.bound c.loop-k.invariant.rises (omega (arith, length-map c.args.slots.now.slots slot_bytes)))

pub loop-k-preserved : goal.loop-k-preserved
loop-k-preserved c =
    let slots = map slot_bytes c.args.slots.now.slots in
    let plain : (j : ℕ) → j < c.loop-k.k + 1 → HasPlainStart (get_or slots j []) = λ j lt. elim (cases_lt j c.loop-k.k) [
      | inl under ↦ c.loop-k.invariant.plain j under
      | inr over ↦ subst HasPlainStart (c.entry-entry.ensures ∙ ap (λ (m : ℕ). get_or slots m []) (omega (arith, lt, over))) c.occupies.ensures.plain
    ] in
    elim c.if-occupies.branch [
      | then-occupies+else-start-bound w ↦
          let on : occupies (get_or slots c.loop-k.k []) ≡ true = sym (ap occupies c.entry-entry.ensures) ∙ sym c.occupies.ensures.value ∙ w.if-occupies.true in
          let start : w.start_of.result ≡ start_of (get_or slots c.loop-k.k []) = w.start_of.ensures ∙ ap start_of c.entry-entry.ensures in
          let next : start_of (get_or slots c.loop-k.k []) + 1 ≡ c.if-occupies.bound = omega (arith, start, w.bound-is, w.from-start.ensures) in
          record {
            rises = subst (RiseTo slots (c.loop-k.k + 1)) next
                (rise_goes_on slots c.loop-k.k c.loop-k.bound c.loop-k.invariant.rises on (omega (arith, start, w.if-start-bound.false, w.from-start.ensures)));
            small = omega (arith, w.bound-is, w.from-start.ensures);
            plain = plain;
          }
      | else-occupies w ↦
          let off : occupies (get_or slots c.loop-k.k []) ≡ false = sym (ap occupies c.entry-entry.ensures) ∙ sym c.occupies.ensures.value ∙ w.if-occupies.false in
          record {
            rises = subst (RiseTo slots (c.loop-k.k + 1)) (sym w.bound-is) (rise_skips slots c.loop-k.k c.loop-k.bound c.loop-k.invariant.rises off);
            small = omega (arith, w.bound-is, c.loop-k.invariant.small);
            plain = plain;
          }
    ]
