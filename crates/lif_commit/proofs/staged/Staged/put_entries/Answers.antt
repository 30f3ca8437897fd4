use Rattle.std.proofs.Common.{◌≡◌, ◌+◌, ◌++◌, ℕ, List, [], ◌∷◌, length, Option, append_assoc, refl, sym, ap, subst, ◌∙◌, arith, rules}
use Rattle.std.specs.Prelude.{IfSome}
use Rattle.lif_model.specs.Writing.{SlotWrites}
use Rattle.lif_redo.proofs.Writes.{then_writes}
use Rattle.lif_dir.specs.declared.entries.FileEntry.{FileEntry}
use Rattle.lif_dir.specs.Entries.{entry_bytes}
use Rattle.lif_dir.specs.Changes.{entry_writes}
use Rattle.lif_commit.proofs.Staging.{staged_as, entry_alone, entry_and_next, entries_are_before, fits_below}
use Rattle.lif_commit.proofs.staged.Staged.put_entries.Goals as goal

pub returns-in_ok-put-2-clause-reads : goal.returns-in_ok-put-2-clause-reads
returns-in_ok-put-2-clause-reads g c = then_writes [] [] _ _ _ c.in_ok-put.ensures.reads c.in_ok-put-2.ensures.reads

pub returns-in_default-clause-staged : goal.returns-in_default-clause-staged
returns-in_default-clause-staged g c = λ writes staged.
    staged_as c.args.header.now.start _ _ _ (λ x. writes x ++ entry_writes c.args.change.now) c.put.new.self.changes.items refl
    (λ x. ap (λ (ws : SlotWrites). writes x ++ ws) (entry_alone c.args.change.now c.bytes.result c.bytes.ensures.bytes c.in_default.is))
    (c.in_ok-put.ensures.staged writes staged)

pub returns-in_ok-put-2-clause-staged : goal.returns-in_ok-put-2-clause-staged
returns-in_ok-put-2-clause-staged g c = λ writes staged.
    let change = c.args.change.now in
    let tape = c.put.ensures.quiet.tape in
    let first = c.in_ok-put.ensures.staged writes staged in
    let one = staged_as c.args.header.now.start _ _ (λ x. writes x ++ (change.slot, c.bytes.result) ∷ []) (λ x. writes x ++ (change.slot, c.bytes.result) ∷ []) c.put.new.self.changes.items tape (λ x. refl) first in
    staged_as c.args.header.now.start _ _ _ (λ x. writes x ++ entry_writes change) c.put-in-Some.new.self.changes.items (sym tape)
    (λ x. append_assoc (writes x) ((change.slot, c.bytes.result) ∷ []) ((change.slot + 1, c.bytes-in-Some.result) ∷ [])
    ∙ ap (λ (ws : SlotWrites). writes x ++ ws) (entry_and_next change c.in-Some.next c.bytes.result c.bytes-in-Some.result (change.slot + 1) c.bytes.ensures.bytes c.bytes-in-Some.ensures.bytes (omega arith) c.in-Some.is))
    (c.in_ok-put-2.ensures.staged (λ x. writes x ++ (change.slot, c.bytes.result) ∷ []) one)

pub returns-in_default-clause-entries : goal.returns-in_default-clause-entries
returns-in_default-clause-entries g c =
    let one : length c.bytes.result ≡ 32 = search rules in
    entries_are_before c.args.header.now.start _ c.args.change.now (fits_below c.args.header.now.start c.args.header.now.length _ _ c.args.change.now c.requires.fits.1 c.requires.below) (subst (λ (b : List ℕ). length b ≡ 32) c.bytes.ensures.bytes one)
    (subst (λ (m : Option FileEntry). IfSome m (λ e. length (entry_bytes e) ≡ 32)) (sym c.in_default.is) tt)

pub returns-in_ok-put-2-clause-entries : goal.returns-in_ok-put-2-clause-entries
returns-in_ok-put-2-clause-entries g c =
    let one : length c.bytes.result ≡ 32 = search rules in
    let two : length c.bytes-in-Some.result ≡ 32 = search rules in
    entries_are_before c.args.header.now.start _ c.args.change.now (fits_below c.args.header.now.start c.args.header.now.length _ _ c.args.change.now c.requires.fits.1 c.requires.below) (subst (λ (b : List ℕ). length b ≡ 32) c.bytes.ensures.bytes one)
    (subst (λ (m : Option FileEntry). IfSome m (λ e. length (entry_bytes e) ≡ 32)) (sym c.in-Some.is) (subst (λ (b : List ℕ). length b ≡ 32) c.bytes-in-Some.ensures.bytes two))
