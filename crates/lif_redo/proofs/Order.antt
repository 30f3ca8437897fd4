-- The writes of settling and of a commit: their order, and which records they are of.
use Rattle.std.proofs.Common.{◌≡◌, ◌<◌, ◌++◌, ◌∙◌, ℕ, suc, List, [], ◌∷◌, Bool, true, false, length, inl, inr, refl, sym, ap, append_assoc}
use Rattle.lif_model.specs.Gate.{gate_of}
use Rattle.lif_model.specs.declared.version.Version.{Version}
use Rattle.lif_model.specs.Redo.{open_gate, zeros, targets_place, targets_record, Changes, targets_in}
use Rattle.lif_model.specs.Commit.{AreChanges, IsTarget, IsRedoWrite, IsSettleWrite, settle_writes, content_writes, close_writes, commit_writes}
use Rattle.lif_model.proofs.Redo.{changes_long, data_place, redo_places}
use Rattle.lif_redo.proofs.Held.{settle_some}
use Rattle.lif_redo.proofs.Writes.{EachWrite, each_both}

-- the writes of the four steps are those of the commit
pub in_order : (version : Version) (n : ℕ) (was_open : Bool) (cs : Changes) → 0 < length cs
    → close_writes n was_open ++ ((content_writes version n 0 cs ++ (targets_place n, targets_record version (targets_in cs)) ∷ []) ++ ((gate_of n, open_gate) ∷ [] ++ (cs ++ (gate_of n, zeros) ∷ [])))
    ≡ commit_writes version n was_open cs
in_order version n was_open cs some =
    let names : ℕ × List ℕ = (targets_place n, targets_record version (targets_in cs)) in
    let opens : ℕ × List ℕ = (gate_of n, open_gate) in
    ap (λ (ws : Changes). close_writes n was_open ++ ws)
    (append_assoc (content_writes version n 0 cs) (names ∷ []) (opens ∷ (cs ++ (gate_of n, zeros) ∷ []))
    ∙ sym (ap (λ (ws : Changes). content_writes version n 0 cs ++ names ∷ opens ∷ ws) (settle_some n cs some)))

-- ---- which records

each_change : (P : ℕ → Type 0) (cs : Changes) → ((k : ℕ) → IsTarget cs k → P k) → EachWrite P cs
each_change P [] all = tt
each_change P (c ∷ cs) all = (all c.0 (inl refl), each_change P cs (λ k target. all k (inr target)))

each_settle : (P : ℕ → Type 0) (n : ℕ) (cs : Changes) → ((k : ℕ) → IsTarget cs k → P k) → P (gate_of n) → EachWrite P (settle_writes n cs)
each_settle P n [] all gate = tt
each_settle P n (c ∷ cs) all gate = each_both P (c ∷ cs) ((gate_of n, zeros) ∷ []) (each_change P (c ∷ cs) all) (gate, tt)

pub settling_is : (n : ℕ) (cs : Changes) → EachWrite (IsSettleWrite n cs) (settle_writes n cs)
settling_is n [] = tt
settling_is n (c ∷ cs) = each_settle (IsSettleWrite n (c ∷ cs)) n (c ∷ cs) (λ k target. inr target) (inl refl)

module _ (version : Version) (n : ℕ) (cs : Changes) (are : AreChanges version n cs) where
  contents : (i : ℕ) (ds : Changes) → EachWrite (IsRedoWrite version n cs) (content_writes version n i ds)
  contents i [] = tt
  contents i (d ∷ ds) = (inl (data_place version n i (changes_long version n cs are).1).0, contents (suc i) ds)

  closing : (was_open : Bool) → EachWrite (IsRedoWrite version n cs) (close_writes n was_open)
  closing true = (inl (redo_places version n).0, tt)
  closing false = tt

  pub commit_is : (was_open : Bool) → EachWrite (IsRedoWrite version n cs) (commit_writes version n was_open cs)
  commit_is was_open =
      let low = redo_places version n in
      each_both (IsRedoWrite version n cs) (close_writes n was_open) _ (closing was_open)
      (each_both (IsRedoWrite version n cs) (content_writes version n 0 cs) _ (contents 0 cs)
      (inl low.1, (inl low.0, each_settle (IsRedoWrite version n cs) n cs (λ k target. inr target) (inl low.0))))
