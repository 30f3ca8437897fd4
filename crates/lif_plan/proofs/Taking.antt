-- What a new file's entry changes of the directory.
use Rattle.std.proofs.Common.{◌≡◌, ◌<◌, ◌++◌, ℕ, suc, zero, List, [], ◌∷◌, Bool, true, false, not, nat_eq, nat_lt, length, get_or, set, length-set, inl, inr, refl, sym, ap, ◌∙◌, arith}
use Rattle.std.specs.Prelude.{◌≢◌, Some, None, insert}
use Rattle.std.proofs.lemmas.Bool.{and_parts, eqb-true, ltb-true, lt-ltb, eq-eqb, ne_eqb, cases_Bool}
use Rattle.lif_model.specs.Tape.{Tape, record_at}
use Rattle.lif_model.specs.Header.{directory_start, capacity_of}
use Rattle.lif_model.specs.Directory.{is_end}
use Rattle.lif_model.specs.Legal.{is_live, is_live_named, has_file}
use Rattle.lif_model.specs.Volume.{Volume, redo_name}
use Rattle.lif_model.specs.Fit.{redo_place}
use Rattle.lif_model.specs.Apply.{placed}
use Rattle.lif_model.specs.declared.version.Version.{Version}
use Rattle.lif_model.specs.Writing.{stored_writes}
use Rattle.lif_model.proofs.Adopted.{position_tells}
use Rattle.lif_model.proofs.Slots.{live_named_tells}
use Rattle.lif_dir.specs.declared.change.Change.{Change}
use Rattle.lif_dir.specs.declared.entries.FileEntry.{FileEntry}
use Rattle.lif_dir.specs.Entries.{AreSlots, entry_bytes}
use Rattle.lif_dir.specs.Changes.{FitsIn, put_slot, change_writes, bytes_with}
use Rattle.lif_dir.proofs.Bytes.{HasWidths}
use Rattle.lif_plan.specs.Plans.{MayTake}
use Rattle.lif_plan.proofs.Planning.{not_end_kind, put_within, put_last, end_is}

-- before the last
insert_last : {X : Type 0} (d : X) (xs : List X) (k : ℕ) (x : X) → suc k ≡ length xs → insert xs k x ≡ set xs k x ++ get_or xs k d ∷ []
insert_last d [] k x last = absurd (omega (arith, last))
insert_last d (y ∷ []) zero x last = refl
insert_last d (y ∷ z ∷ zs) zero x last = absurd (omega (arith, last))
insert_last d (y ∷ ys) (suc k) x last = ap (λ zs. y ∷ zs) (insert_last d ys k x (omega (arith, last)))

-- a change that is a new entry in its slot
pub record Takes (capacity : ℕ) (slots : List (List ℕ)) (c : Change) : Type 0 where
  pub fits : FitsIn capacity (length slots) c
  pub writes : (v : Volume) (u : Tape) (start : ℕ) → v.slots ≡ slots → capacity_of v.header ≡ capacity → directory_start (record_at u 0) ≡ start
      → stored_writes v c.slot (entry_bytes c.entry) u ≡ change_writes start c u
  pub after : placed slots c.slot (entry_bytes c.entry) ≡ bytes_with c slots

module _ (capacity : ℕ) (slots : List (List ℕ)) (k : ℕ) (may : MayTake capacity slots k) (redo : has_file slots redo_name ≡ true) where
  -- a live slot is the redo entry's own, the last
  own_slot : is_live (get_or slots k []) ≡ true → (nat_eq k (redo_place slots) ≡ true) × (suc k ≡ length slots) × (length slots < capacity)
  own_slot live = elim may [
    | inl purged ↦ let no : false ≡ true = sym (ap not purged.2) ∙ live in cc
    | inr own ↦
        let both = and_parts _ _ own.1 in
        let last : suc (redo_place slots) ≡ length slots = eqb-true (suc (redo_place slots)) (length slots) both.0 in
        (eq-eqb k (redo_place slots) own.0, omega (arith, own.0, last), ltb-true (length slots) capacity both.1)
  ]

  -- any other is that of a purged file
  purged_slot : is_live (get_or slots k []) ≡ false → (nat_eq k (redo_place slots) ≡ false) × (k < length slots)
  purged_slot dead = elim may [
    | inl purged ↦ (ne_eqb k (redo_place slots) (λ e. absurd (omega (arith, e, purged.0))), purged.1)
    | inr own ↦
        let there = position_tells [] (is_live_named redo_name) slots redo in
        let live : is_live (get_or slots (redo_place slots) []) ≡ true = (live_named_tells redo_name (get_or slots (redo_place slots) []) there.1).0 in
        let no : true ≡ false = sym live ∙ sym (ap (λ (j : ℕ). is_live (get_or slots j [])) own.0) ∙ dead in cc
  ]

  pub within_slots : k < length slots
  within_slots = elim (cases_Bool (is_live (get_or slots k []))) [
    | inl live ↦ omega (arith, (own_slot live).1)
    | inr dead ↦ (purged_slot dead).1
  ]

  module _ (shape : AreSlots capacity slots) (version : Version) (entry : FileEntry) (no_end : entry.kind ≢ 0xFFFF) where
    pub takes_own : (own : FileEntry) (ended : Bool) → is_live (get_or slots k []) ≡ true → HasWidths own → entry_bytes own ≡ get_or slots k [] → ended ≡ nat_lt (suc (suc k)) capacity
        → Takes capacity slots (record { version = version; slot = k; entry = entry; next = Some own; ended = ended })
    takes_own own ended live widths bytes on =
        let is = own_slot live in
        let new : List ℕ = entry_bytes entry in record {
          fits = record {
            place = omega (arith, is.1);
            one = omega (arith, is.1);
            within = omega (arith, is.1, is.2);
            kind = no_end;
            next = (omega (arith, is.1, is.2), not_end_kind own widths (ap is_end bytes ∙ shape.kinds k within_slots));
            end_within = λ e. ltb-true (suc (suc k)) capacity (sym on ∙ e);
            end_past = λ e. omega (arith, is.1);
            end_there = λ more room. on ∙ lt-ltb (suc (suc k)) capacity room;
          };
          writes = λ v u start same wide begins. rw same (rw is.0 (λ i. (k, new) ∷ (suc k, sym bytes i) ∷ end_is (capacity_of v.header) capacity start (suc (suc k)) u ended wide begins on i));
          after = rw is.0 (insert_last [] slots k new is.1 ∙ ap (λ (b : List ℕ). set slots k new ++ b ∷ []) (sym bytes)
              ∙ sym (put_last (set slots k new) (suc k) (entry_bytes own) (is.1 ∙ sym (length-set slots k new)))
              ∙ ap (λ (xs : List (List ℕ)). put_slot xs (suc k) (entry_bytes own)) (sym (put_within slots k new (omega (arith, is.1)))));
        }

    pub takes_purged : is_live (get_or slots k []) ≡ false → Takes capacity slots (record { version = version; slot = k; entry = entry; next = None; ended = false })
    takes_purged dead =
        let is = purged_slot dead in record {
          fits = record { place = omega (arith, is.1); one = omega (arith, is.1); within = omega (arith, is.1, shape.few); kind = no_end; next = tt; end_within = λ e. let no : false ≡ true = e in cc; end_past = λ e. let no : false ≡ true = e in cc; end_there = λ more room. absurd (omega (arith, more, is.1)) };
          writes = λ v u start same wide begins. rw same (rw is.0 refl);
          after = rw is.0 (sym (put_within slots k (entry_bytes entry) is.1));
        }
