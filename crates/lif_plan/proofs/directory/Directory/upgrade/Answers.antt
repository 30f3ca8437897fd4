use Rattle.std.proofs.Common.{◌≡◌, ◌==◌, ℕ, List, true, false, nat_lt, map, replicate, refl, ap, sym, ◌∙◌, arith, rules}
use Rattle.std.proofs.lemmas.Bool.{lt-ltb, le-ltb, or_right}
use Rattle.std.specs.Prelude.{is_some}
use Rattle.lif_model.proofs.Made.{extent_type}
use Rattle.std.specs.List.{position}
use Rattle.lif_model.specs.Header.{HeaderParts, directory_end}
use Rattle.lif_model.specs.Made.{with_extent}
use Rattle.lif_model.specs.Legal.{has_file, is_live_named}
use Rattle.lif_model.specs.declared.version.Version.{Version}
use Rattle.lif_model.specs.declared.version.Version.TheVariants.{One, Two}
use Rattle.lif_model.specs.Redo.{redo_start, redo_length}
use Rattle.lif_model.specs.Volume.{is_adopted_with, redo_name, upgraded_entry}
use Rattle.lif_model.proofs.Adopted.{adopted_some}
use Rattle.lif_dir.specs.Entries.{slot_bytes}
use Rattle.lif_plan.proofs.Found.{has_place}
use Rattle.lif_plan.proofs.Planning.{refuses, leaves, one_version, past_redo, redo_is_there, slot_plan}
use Rattle.lif_plan.proofs.directory.Directory.upgrade.Goals as goal
use Rattle.lif_plan.proofs.directory.Directory.upgrade.Goals.{then-end-start-via-then-end-start, then-end-start-via-else-end-start+then-runs_past}

pub returns-in-Some-Two-clause-plan : goal.returns-in-Some-Two-clause-plan
returns-in-Some-Two-clause-plan c =
    let n : ℕ = c.args.size in
    let slots = map slot_bytes c.args.self.now.table.slots in
    let two : is_adopted_with n Two slots ≡ true = ap (λ (w : Version). is_adopted_with n w slots) (sym c.in-Some-Two.field-0-is) ∙ c.in-Some-Two.ensures in
    leaves tt (λ v is. simp (adopted_some n Two slots two, two) refl) (λ v is u. simp two refl) (λ v is. simp two refl)

pub returns-then-end-start-clause-plan : goal.returns-then-end-start-clause-plan
returns-then-end-start-clause-plan c =
    let n : ℕ = c.args.size in
    let slots = map slot_bytes c.args.self.now.table.slots in
    let one : is_adopted_with n One slots ≡ true = ap (λ (w : Version). is_adopted_with n w slots) (sym c.in-Some-One.field-0-is) ∙ c.in-Some-One.ensures in
    elim c.then-end-start.branch [
      | then-end-start-via-then-end-start w ↦ refuses refl (λ v is. simp (
        adopted_some n One slots one,
        one_version n _ is.volume one,
        lt-ltb (redo_start Two n) (directory_end v.header) (omega (arith, w.if-end-start.true, c.end.ensures, c.start-start.ensures, ap (λ (h : HeaderParts). h.start) is.told, ap (λ (h : HeaderParts). h.length) is.told)),
      ) refl)
      | then-end-start-via-else-end-start+then-runs_past w ↦ refuses refl (λ v is. simp (
        adopted_some n One slots one,
        one_version n _ is.volume one,
        or_right (nat_lt (redo_start Two n) (directory_end v.header)) _ (sym (past_redo n slots c.start-start.result c.start-start.ensures) ∙ sym w.runs_past.ensures ∙ w.if-runs_past.true),
      ) refl)
    ]

pub unreachable-requires : goal.unreachable-requires
unreachable-requires c =
    let n : ℕ = c.args.size in
    let slots = map slot_bytes c.args.self.now.table.slots in
    let one : is_adopted_with n One slots ≡ true = ap (λ (w : Version). is_adopted_with n w slots) (sym c.in-Some-One.field-0-is) ∙ c.in-Some-One.ensures in
    let none : has_file slots redo_name ≡ false = ap (has_file slots) (sym c.redo_name.ensures) ∙ has_place slots _ ∙ ap is_some (sym c.place_named.ensures.place ∙ c.in_default.is) in
    let both : true ≡ false = sym (redo_is_there n One slots one) ∙ none in cc

pub returns-clause-plan : goal.returns-clause-plan
returns-clause-plan c =
    let n : ℕ = c.args.size in
    let slots = map slot_bytes c.args.self.now.table.slots in
    let one : is_adopted_with n One slots ≡ true = ap (λ (w : Version). is_adopted_with n w slots) (sym c.in-Some-One.field-0-is) ∙ c.in-Some-One.ensures in
    let start : c.from.result ≡ redo_start Two n = c.from.ensures ∙ c.start-start.ensures in
    let count : c.from-length.result ≡ redo_length Two = c.from-length.ensures ∙ c.length.ensures in
    slot_plan redo_name c.in-Some.slot (upgraded_entry n) One c.moved.result tt tt c.requires.legal
    (ap (λ (name : List ℕ). position (is_live_named name) slots) (sym c.redo_name.ensures) ∙ sym c.in-Some.ensures.place)
    (c.moved.ensures ∙ (λ i. with_extent (start i) (count i) (replicate 4 0) (c.entry.ensures i))) (search rules) (λ s size off. ap (λ k. k == 0xFFFF) (extent_type (redo_start Two n) (redo_length Two) (replicate 4 0) s size) ∙ off)
    (λ v is. simp (
      adopted_some n One slots one,
      one_version n _ is.volume one,
      le-ltb (redo_start Two n) (directory_end v.header) (omega (arith, c.if-end-start.false, c.end.ensures, c.start-start.ensures, ap (λ (h : HeaderParts). h.start) is.told, ap (λ (h : HeaderParts). h.length) is.told)),
      sym (past_redo n slots c.start-start.result c.start-start.ensures) ∙ sym c.runs_past.ensures ∙ c.if-runs_past.false,
    ) refl)
    (λ v is. (refl, one)) (λ v is u. simp (one_version n _ is.volume one) refl) (λ v is. simp (one_version n _ is.volume one) refl)
