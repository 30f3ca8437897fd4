use Rattle.std.proofs.Common.{◌<◌, ◌++◌, ◌∙◌, ℕ, List, [], length, map, sym, ap, subst}
use Rattle.std.proofs.lemmas.Result.{on_ok_weaker}
use Rattle.lif_dir.specs.Entries.{slot_bytes}
use Rattle.lif_dir.specs.Tables.{Table}
use Rattle.lif_pack.specs.Steps.{HasRecord}
use Rattle.lif_pack.proofs.SetAside.{aside_same, none_aside, written_before}
use Rattle.lif_pack.proofs.memory.Packer.stage_slots.Goals as goal

pub returns-clause-staged : goal.returns-clause-staged
returns-clause-staged g c = on_ok_weaker c.stage_other-2.result (λ staged.
    let first = c.args.first in
    let one = c.in_ok-stage_record.ensures in
    let two = c.in_ok-stage_other.ensures in
    let same1 = ap (λ (t : Table). map slot_bytes t.slots) one.still in
    let same2 = ap (λ (t : Table). map slot_bytes t.slots) two.still in
    let a = one.staged [] (none_aside first _ _ _ c.clear.ensures.items) in
    let b = two.staged a.0 (aside_same first _ _ _ _ _ _ one.quiet.tape same1 a.1) (subst (λ (xs : List (List ℕ)). HasRecord xs c.args.low a.0) (sym same1) a.2) in
    let d = staged (a.0 ++ b.0) (aside_same first _ _ _ _ _ _ two.quiet.tape same2 b.1) (subst (λ (xs : List (List ℕ)). HasRecord xs c.args.high (a.0 ++ b.0)) (sym same2) b.2) in (
      (a.0 ++ b.0) ++ d.0,
      aside_same first _ _ _ _ _ _ (sym (two.quiet.tape ∙ one.quiet.tape)) (sym (same2 ∙ same1)) d.1,
      (λ k lt at. written_before (a.0 ++ b.0) d.0 k (written_before a.0 b.0 k (a.2 k lt at))),
      (λ k lt at. written_before (a.0 ++ b.0) d.0 k (b.2 k (subst (λ (xs : List (List ℕ)). k < length xs) (sym same1) lt) at)),
      (λ k lt at. d.2 k (subst (λ (xs : List (List ℕ)). k < length xs) (sym (same2 ∙ same1)) lt) at),
    )) c.stage_other-2.ensures.staged
