use Rattle.std.proofs.Common.{◌≡◌, ◌<◌, ◌%◌, ℕ, List, [], get_or, length, set, sym, Some, arith, ap, ◌∙◌}
use Rattle.lif_model.specs.Tape.{Tape}
use Rattle.lif_model.specs.Directory.{entry_at}
use Rattle.lif_model.specs.Made.{with_type}
use Rattle.lif_model.specs.Redo.{Changes}
use Rattle.lif_model.specs.Writing.{with_entry, slot_record, entry_from}
use Rattle.lif_commit.proofs.Staging.{past_set, value_at, put_brought, brought_record, before_leave}
use Rattle.lif_commit.proofs.staged.Staged.end.Goals as goal

pub returns-clause-staged : goal.returns-clause-staged
returns-clause-staged g c = λ writes staged others.
    let mid : Changes = c.bring_in.new.self.changes.items in
    let place : ℕ = c.in_ok-place.place in
    let view = g.R.Records.view c.args.records.now in
    let value : c.index_mut.result.now ≡ get_or mid place (0, []) = value_at mid place _ c.index_mut.ensures.value c.in_ok-place.ensures.within in
    let shape = λ (t : Tape) (told : view.tape ≡ Some t). (g.met.R.Records.is_store c.args.records.now).is_tape t told in
    let within : (t : Tape) → view.tape ≡ Some t → slot_record c.args.header.now.start c.args.slot < length t = λ t told. omega (arith, c.requires.within, (shape t told).records) in
    let ended : List ℕ = with_type 0xFFFF (entry_at (get_or mid place (0, [])).1 (c.args.slot % 8)) in
    put_brought c.args.header.now.start c.args.slot view.tape writes (λ x. with_type 0xFFFF (entry_from x c.args.header.now.start c.args.slot)) c.args.self.now.changes.items staged
    within place mid
    (set mid place (c.index_mut.result.now.0, c.end_entry.new.bytes)) ended c.in_ok-place.ensures.found
    (λ t told. ap (λ (bytes : List ℕ). with_type 0xFFFF (entry_at bytes (c.args.slot % 8))) (brought_record c.args.header.now.start c.args.slot view.tape writes (λ x. with_type 0xFFFF (entry_from x c.args.header.now.start c.args.slot)) c.args.self.now.changes.items staged within place mid c.in_ok-place.ensures.found t told)
    ∙ ap (with_type 0xFFFF) (before_leave c.args.header.now.start view.record_count c.args.slot (writes t) t (shape t told) c.requires.within (others t told)))
    (ap (λ (bytes : List ℕ). set mid place (c.index_mut.result.now.0, bytes)) c.end_entry.ensures
    ∙ (λ i. set mid place ((value i).0, with_entry (value i).1 (c.args.slot % 8) (with_type 0xFFFF (entry_at (value i).1 (c.args.slot % 8))))))

pub returns-clause-few : goal.returns-clause-few
returns-clause-few g c =
    let mid : Changes = c.bring_in.new.self.changes.items in
    let place : ℕ = c.in_ok-place.place in
    let value : c.index_mut.result.now ≡ get_or mid place (0, []) = value_at mid place _ c.index_mut.ensures.value c.in_ok-place.ensures.within in
    let same = past_set c.args.header.now.start (length c.args.table.now.slots) place mid (c.index_mut.result.now.0, c.end_entry.new.bytes) (ap (λ (b : ℕ × List ℕ). b.0) (sym value)) in
    omega (arith, same, c.in_ok-place.ensures.few)
