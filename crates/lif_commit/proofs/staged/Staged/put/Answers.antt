use Rattle.std.proofs.Common.{◌≡◌, ◌%◌, ℕ, List, [], get_or, length, set, refl, sym, arith, ap, ◌∙◌}
use Rattle.lif_model.specs.Redo.{Changes}
use Rattle.lif_model.specs.Writing.{with_entry}
use Rattle.lif_commit.proofs.Staging.{past_set, value_at, put_brought}
use Rattle.lif_commit.proofs.staged.Staged.put.Goals as goal

pub returns-clause-staged : goal.returns-clause-staged
returns-clause-staged g c = λ writes staged.
    let mid : Changes = c.bring_in.new.self.changes.items in
    let place : ℕ = c.in_ok-place.place in
    let value : c.index_mut.result.now ≡ get_or mid place (0, []) = value_at mid place _ c.index_mut.ensures.value c.in_ok-place.ensures.within in
    put_brought c.args.header.now.start c.args.slot (g.R.Records.view c.args.records.now).tape writes (λ x. c.args.entry.now) c.args.self.now.changes.items staged
    (λ t told. omega (arith, c.requires.within, ((g.met.R.Records.is_store c.args.records.now).is_tape t told).records)) place mid
    (set mid place (c.index_mut.result.now.0, c.put_entry.new.bytes)) c.args.entry.now c.in_ok-place.ensures.found (λ t told. refl)
    (ap (λ (bytes : List ℕ). set mid place (c.index_mut.result.now.0, bytes)) c.put_entry.ensures
    ∙ (λ i. set mid place ((value i).0, with_entry (value i).1 (c.args.slot % 8) c.args.entry.now)))

pub returns-clause-few : goal.returns-clause-few
returns-clause-few g c =
    let mid : Changes = c.bring_in.new.self.changes.items in
    let place : ℕ = c.in_ok-place.place in
    let value : c.index_mut.result.now ≡ get_or mid place (0, []) = value_at mid place _ c.index_mut.ensures.value c.in_ok-place.ensures.within in
    let same = past_set c.args.header.now.start (length c.args.table.now.slots) place mid (c.index_mut.result.now.0, c.put_entry.new.bytes) (ap (λ (b : ℕ × List ℕ). b.0) (sym value)) in
    omega (arith, same, c.in_ok-place.ensures.few)
