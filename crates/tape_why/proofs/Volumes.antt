-- The volume of a tape of which record 0 and the directory were read.
use Rattle.std.proofs.Common.{◌≡◌, ◌&&◌, ◌*◌, ◌∙◌, ℕ, Bool, true, false, List, length, map, filter, option_map, ap, sym, subst, arith}
use Rattle.std.specs.Prelude.{Option, Some}
use Rattle.std.specs.List.{list_all}
use Rattle.lif_model.specs.Tape.{Tape, record_at}
use Rattle.lif_model.specs.Header.{HeaderParts, directory_end, directory_length}
use Rattle.lif_model.specs.Directory.{slots_of}
use Rattle.lif_model.specs.Pairs.{all_pairs}
use Rattle.lif_model.specs.Legal.{IsLegal, are_apart, have_other_names, is_legal, is_legal_with, is_live, lies_between, occupies}
use Rattle.lif_model.specs.Volume.{Volume, files_of, is_adopted, volume_if, volume_in}
use Rattle.lif_model.proofs.Directory.{volume_from}
use Rattle.lif_model.proofs.Legal.{legal_tells}
use Rattle.lif_header.specs.Reading.{IsFault}
use Rattle.lif_header.specs.declared.header.HeaderFault.{HeaderFault}
use Rattle.lif_dir.specs.declared.entries.Slot.{Slot}
use Rattle.lif_dir.specs.Entries.{AreSlots, slot_bytes}
use Rattle.lif_plan.specs.Plans.{IsVolumeWith}
use Rattle.tape_why.specs.declared.defects.Defect.TheVariants as defect
use Rattle.tape_why.specs.Defects.{or_else, slots_defect}
use Rattle.tape_why.specs.Readings.{IsDirectoryRead}
use Rattle.tape_why.specs.Why.{is_changeable_with, listed_text, unlisted_line, volume_cause}
use Rattle.tape_why.proofs.Legality.{fault_is_unreadable, found_fault, slots_alone}

-- the volume of a legal tape
abbrev pub volume_on : Tape → Volume
volume_on t = record { header = record_at t 0; slots = slots_of t; files = files_of t (slots_of t) }

module _ (n : ℕ) (t : Tape) (header : HeaderParts) (slots : List Slot) (size : length t ≡ n) (read : IsDirectoryRead t header slots) where
  pub legal_here : is_legal_with n (record_at t 0) (map slot_bytes slots) ≡ is_legal t
  legal_here = λ i. is_legal_with (sym size i) (record_at t 0) (read.bytes i)

  pub is_volume_read : is_legal t ≡ true → IsVolumeWith n header (map slot_bytes slots) (volume_on t)
  is_volume_read legal =
      let shape : AreSlots (8 * header.length) (slots_of t) = subst (AreSlots (8 * header.length)) read.bytes read.shape in
      let long : header.length ≡ directory_length (record_at t 0) = ap (λ (h : HeaderParts). h.length) read.told in
      record {
        volume = record {
          header = read.whole;
          legal = subst (λ (m : ℕ). IsLegal m (record_at t 0) (slots_of t)) size (legal_tells (length t) (record_at t 0) (slots_of t) legal);
          room = omega (arith, shape.few, long);
          entries = shape.entries;
          kinds = shape.kinds;
        };
        told = sym read.told;
        same = sym read.bytes;
      }

  pub listed_cause : is_legal t ≡ true → listed_text n (volume_on t) ≡ volume_cause t (volume_in t)
  listed_cause legal = ap (λ (m : ℕ). listed_text m (volume_on t)) (sym size) ∙ sym (ap (volume_cause t) (volume_from t legal))

  pub unlisted_cause : is_legal t ≡ false → unlisted_line (map slot_bytes slots) (slots_defect n (record_at t 0) (map slot_bytes slots)) ≡ volume_cause t (volume_in t)
  unlisted_cause off =
      (λ i. unlisted_line (read.bytes i) (slots_defect (sym size i) (record_at t 0) (read.bytes i)))
      ∙ ap (unlisted_line (slots_of t)) (sym (slots_alone (length t) (record_at t 0) (slots_of t) read.readable))
      ∙ sym (ap (λ (b : Bool). volume_cause t (volume_if b t)) off)

  pub listed_changeable : is_legal t ≡ true → is_adopted n (map slot_bytes slots) ≡ is_changeable_with n (volume_in t)
  listed_changeable legal = ap (is_adopted n) read.bytes ∙ sym (ap (is_changeable_with n) (volume_from t legal))

-- a tape that is not legal cannot be changed
pub not_changeable : (n : ℕ) (t : Tape) → is_legal t ≡ false → false ≡ is_changeable_with n (volume_in t)
not_changeable n t off = sym (ap (λ (b : Bool). is_changeable_with n (volume_if b t)) off)

-- record 0 is no header
module _ (t : Tape) (f : HeaderFault) (is : IsFault (length t) (record_at t 0) f) where
  pub fault_is_no_volume : is_legal t ≡ false
  fault_is_no_volume = ap (λ (b : Bool). b
      && (list_all (lies_between (directory_end (record_at t 0)) (length t)) (filter occupies (slots_of t))
      && (all_pairs are_apart (filter occupies (slots_of t)) && all_pairs have_other_names (filter is_live (slots_of t))))) (fault_is_unreadable (length t) (record_at t 0) f is)

  pub fault_cause : (slots : List (List ℕ)) → unlisted_line slots (Some (defect.Header f)) ≡ volume_cause t (volume_in t)
  fault_cause slots =
      ap (λ (o : Option HeaderFault). unlisted_line (slots_of t) (or_else (option_map defect.Header o) (slots_defect (length t) (record_at t 0) (slots_of t)))) (sym (found_fault (length t) (record_at t 0) f is))
      ∙ sym (ap (λ (b : Bool). volume_cause t (volume_if b t)) fault_is_no_volume)
