-- What settling and reading leave of a volume, and what a command answers then.
use Rattle.std.proofs.Common.{length, ◌≡◌, ◌++◌, ℕ, List, [], ◌∷◌, Bool, true, false, refl, sym, ap, subst, ◌∙◌, arith}
use Rattle.std.proofs.lemmas.List.{append-nil}
use Rattle.std.specs.Prelude.{Option, Some, None, Ok, Err, IfSome, is_some}
use Rattle.lif_model.specs.Tape.{Tape, record_at}
use Rattle.lif_model.specs.Directory.{slots_of}
use Rattle.lif_model.specs.Redo.{Changes, redo_of, settled}
use Rattle.lif_model.specs.Legal.{is_legal}
use Rattle.lif_model.specs.Commit.{SettlesAs}
use Rattle.lif_model.specs.Volume.{Volume, files_of, volume_if, volume_in, volume_of, is_foreign_gated}
use Rattle.lif_model.specs.Apply.{VolumeCommand, Dir, Label, Fetch, refusal_of, next_unless, apply}
use Rattle.lif_model.specs.declared.refusal.Refusal.{Refusal}
use Rattle.lif_model.specs.declared.refusal.Refusal.TheVariants.{NotLif}
use Rattle.lif_model.specs.Transfers.{Transfer}
use Rattle.lif_model.proofs.Moments.{weaker, still}
use Rattle.lif_model.proofs.Redo.{length_settled, settled_twice}
use Rattle.lif_model.proofs.Adopted.{settles_as_same}
use Rattle.lif_model.proofs.Apply.{refused_stays}
use Rattle.lif_model.specs.Header.{HeaderParts}
use Rattle.il_ports.specs.Stores.{RecordsView, IsStore, IsReady, IsQuiet, GoesOn, RunLeaves}
use Rattle.il_ports.specs.Transfers.{WritesOnly, GoesOnBy, AddsOnly}
use Rattle.il_ports.proofs.Stores.{quiet_run, quiet_nowhere, goes_nowhere}
use Rattle.il_ports.proofs.Transfers.{wider, then_more}
use Rattle.lif_volume.specs.declared.fault.VolumeFault.{VolumeFault}
use Rattle.lif_volume.specs.declared.fault.VolumeFault.TheVariants.{Refused, Trouble as Troubled}
use Rattle.lif_volume.specs.Views.{VolumeView, IsDirectoryOf}
use Rattle.lif_volume.specs.Answers.{HasVolumeOf, Answers, IsSettledAs, IsLegalAs, IsNotLif, store_answer}
use Rattle.lif_volume.specs.Commands.{VolumeStays, SettlesOnly, Consults, mounting, mounting_on}

-- ---- at any moment

module _ {S : Type 0} (v : RecordsView S) (t : Tape) (off : is_foreign_gated t ≡ false) where
  own : HasVolumeOf t t
  own = record { records = refl; volume = refl; own_gate = off }

  -- nothing is done
  pub stays_here : IsStore v → v.tape ≡ Some t → VolumeStays v v t
  stays_here store told = record { stops = quiet_run v v (HasVolumeOf t) t store (quiet_nowhere v) told own; after = (t, told, own) }

  -- the tape is settled, or the store failed while it was
  pub stays_settling : (w : RecordsView S) → RunLeaves v w (SettlesAs (settled t)) → ((u : Tape) × (w.tape ≡ Some u) × SettlesAs (settled t) u)
      → (redo_of t ≡ [] → (w.tape ≡ Some t) × RunLeaves v w (λ x. x ≡ t)) → VolumeStays v w t
  stays_settling w run after idle = go (redo_of t) refl
    where
      same : (x : Tape) → x ≡ t → HasVolumeOf t x
      same x e = record { records = ap length e; volume = ap volume_of e; own_gate = ap is_foreign_gated e ∙ off }

      go : (cs : Changes) → redo_of t ≡ cs → VolumeStays v w t
      go [] none = let quiet = idle none in record { stops = weaker _ _ _ _ _ _ quiet.1 same; after = (t, quiet.0, own) }
      go (c ∷ cs) is =
          let each : (x : Tape) → SettlesAs (settled t) x → HasVolumeOf t x = λ x settles.
          let both = settles_as_same t x c cs is off settles in record { records = settles.records ∙ length_settled t; volume = both.0; own_gate = both.1 } in
          record { stops = weaker _ _ _ _ _ _ run each; after = (after.0, after.1, each after.0 after.2) }

  -- calls that write nothing come after
  pub stays_reading : (w u : RecordsView S) → VolumeStays v w t → IsQuiet w u → VolumeStays v u t
  stays_reading w u stays quiet = record {
    stops = still _ _ _ _ _ _ _ quiet.moment quiet.since stays.stops;
    after = (stays.after.0, quiet.tape ∙ stays.after.1, stays.after.2);
  }

-- the same of any tape, which settles to what it did
module _ {S : Type 0} (v : RecordsView S) (t : Tape) where
  as_itself : SettlesAs (settled t) t
  as_itself = record { records = sym (length_settled t); same = λ k other. refl }

  pub settles_here : IsStore v → v.tape ≡ Some t → SettlesOnly v v t
  settles_here store told = record { stops = quiet_run v v (SettlesAs (settled t)) t store (quiet_nowhere v) told as_itself; after = (t, told, as_itself) }

  pub settles_settling : (w : RecordsView S) → RunLeaves v w (SettlesAs (settled t)) → ((u : Tape) × (w.tape ≡ Some u) × SettlesAs (settled t) u) → SettlesOnly v w t
  settles_settling w run after = record { stops = run; after = after }

  pub settles_reading : (w u : RecordsView S) → SettlesOnly v w t → IsQuiet w u → SettlesOnly v u t
  settles_reading w u settles quiet = record {
    stops = still _ _ _ _ _ _ _ quiet.moment quiet.since settles.stops;
    after = (settles.after.0, quiet.tape ∙ settles.after.1, settles.after.2);
  }

-- reads alone come after
pub reads_behind : (P : ℕ → Type 0) (old mid new : List Transfer → Type 0) → GoesOnBy P old mid → GoesOnBy (λ n. ⊥) mid new → GoesOnBy P old new
reads_behind P old mid new first next = then_more P old mid new first (wider (λ n. ⊥) P mid new (λ n no. absurd no) next)

-- the same where the store did not fail
pub adds_behind : (P : ℕ → Type 0) (old mid new : List Transfer → Type 0) (fault : VolumeFault) → GoesOnBy P old mid
    → AddsOnly (λ n. ⊥) mid new (store_answer {T = Unit {0}} (Err fault)) → AddsOnly P old new (store_answer {T = Unit {0}} (Err fault))
adds_behind P old mid new (Refused why) first next = reads_behind P old mid new first next
adds_behind P old mid new (Troubled trouble) first next = tt

-- ---- where the directory is kept

-- none for mounting where the directory is kept, and nowhere else
pub nothing_mounted : (n : ℕ) (old new : Option HeaderParts) → is_some old ≡ true → mounting n old new ≡ 0
nothing_mounted n (Some header) new on = refl
nothing_mounted n None new on = cc

pub mounted_as_kept : (t : Tape) (old : Option HeaderParts) → mounting_on t old ≡ 0 → is_some old ≡ true
mounted_as_kept t (Some header) none = refl
mounted_as_kept t None none = absurd (omega (arith, none))

-- by transfers that write only such records, and by none where the directory is kept
abbrev pub FirstBy : (ℕ → Type 0) → Bool → (List Transfer → Type 0) → (List Transfer → Type 0) → Type 0
FirstBy P kept old mid = (list : List Transfer) → old list → (more : List Transfer) × mid (list ++ more) × WritesOnly P more × (kept ≡ true → more ≡ [])

pub first_by : (P : ℕ → Type 0) (kept : Bool) (old mid : List Transfer → Type 0) → (kept ≡ true → mid ≡ old) → GoesOnBy P old mid → FirstBy P kept old mid
first_by P true old mid same goes = λ list was.
    ([], subst (λ (told : List Transfer → Type 0). told (list ++ [])) (sym (same refl)) (subst old (sym (append-nil list)) was), tt, λ on. refl)
first_by P false old mid same goes = λ list was. let a = goes.goes_on list was in (a.0, a.1, a.2, λ on. cc)

pub kept_is_of : {R : Type 0} (x : VolumeView R) (header : HeaderParts) (t : Tape) → x.kept ≡ Some header → IfSome x.kept (λ h. IsDirectoryOf t h x.slots) → IsDirectoryOf t header x.slots
kept_is_of x header t kept known = subst (λ (k : Option HeaderParts). IfSome k (λ h. IsDirectoryOf t h x.slots)) kept known

pub consults_nothing : {R S T : Type 0} (view : R → RecordsView S) (x : VolumeView R) (header : HeaderParts) (n calls : ℕ) (answer : T) → x.kept ≡ Some header → IsReady calls (view x.records)
    → ((t : Tape) → (view x.records).tape ≡ Some t → IfSome x.kept (λ h. IsDirectoryOf t h x.slots))
    → Consults (mounting n x.kept x.kept) (λ t. mounting_on t x.kept) view x x (Ok answer)
consults_nothing view x header n calls answer kept ready known =
    let none : 0 ≡ mounting n x.kept x.kept = sym (ap (λ (k : Option HeaderParts). mounting n k k) kept) in
    record {
      goes_on = subst (λ (k : ℕ). GoesOn {T = Unit {0}} k (view x.records) (view x.records) (Ok tt)) none (goes_nowhere calls (view x.records) ready);
      few = λ t told. omega arith;
      idle = λ none. refl;
      settles = λ t told. told ∙ ap Some (sym ((kept_is_of x header t kept (known t told)).settled));
      kept = ap is_some kept;
    }

-- ---- what a command answers

-- the volume of a legal tape
abbrev pub volume_on : Tape → Volume
volume_on t = record { header = record_at t 0; slots = slots_of t; files = files_of t (slots_of t) }

-- the tape after a command is the settled one
pub behind : (t u : Tape) (tape : Option Tape) → tape ≡ Some u → tape ≡ Some (settled t) → u ≡ settled t
behind t u tape now settles = let both : Some u ≡ Some (settled t) = sym now ∙ settles in cc

module _ (n : ℕ) (t u : Tape) (same : u ≡ settled t) where
  volume_same : volume_of u ≡ volume_of t
  volume_same = ap volume_of same ∙ ap volume_in (settled_twice t)

  -- a tape that is not legal has no volume
  pub answers_not_lif : (command : VolumeCommand) → refusal_of n command None ≡ Some NotLif → is_legal (settled t) ≡ false
      → apply n command (volume_of t) ≡ (Some NotLif, volume_of u)
  answers_not_lif command refused off =
      let none : volume_of t ≡ None = ap (λ (b : Bool). volume_if b (settled t)) off in
      ap (apply n command) none ∙ refused_stays n command None NotLif refused ∙ ap (λ (v : Option Volume). (Some NotLif, v)) (sym none ∙ sym volume_same)

  some_volume : is_legal (settled t) ≡ true → volume_of t ≡ volume_if true (settled t)
  some_volume on = ap (λ (b : Bool). volume_if b (settled t)) on

  pub answers_dir : is_legal (settled t) ≡ true → apply n Dir (volume_of t) ≡ (None, volume_of u)
  answers_dir on = ap (apply n Dir) (some_volume on) ∙ ap (λ (v : Option Volume). (None, v)) (sym (some_volume on) ∙ sym volume_same)

  pub answers_label : is_legal (settled t) ≡ true → apply n Label (volume_of t) ≡ (None, volume_of u)
  answers_label on = ap (apply n Label) (some_volume on) ∙ ap (λ (v : Option Volume). (None, v)) (sym (some_volume on) ∙ sym volume_same)

  -- a legal one has its volume, whose slots are those of the tape
  pub answers_refused : (command : VolumeCommand) (refusal : Refusal) → is_legal (settled t) ≡ true
      → ((v : Volume) → v.slots ≡ slots_of (settled t) → refusal_of n command (Some v) ≡ Some refusal) → apply n command (volume_of t) ≡ (Some refusal, volume_of u)
  answers_refused command refusal on refused =
      ap (apply n command) (some_volume on) ∙ refused_stays n command (volume_if true (settled t)) refusal (refused (volume_on (settled t)) refl)
      ∙ ap (λ (v : Option Volume). (Some refusal, v)) (sym (some_volume on) ∙ sym volume_same)

  pub answers_fetch : (name : List ℕ) → is_legal (settled t) ≡ true
      → ((v : Volume) → v.slots ≡ slots_of (settled t) → refusal_of n (Fetch name) (Some v) ≡ None) → apply n (Fetch name) (volume_of t) ≡ (None, volume_of u)
  answers_fetch name on free =
      let not_refused = free (volume_on (settled t)) refl in
      ap (apply n (Fetch name)) (some_volume on) ∙ (λ i. (not_refused i, next_unless n (Fetch name) (volume_if true (settled t)) (not_refused i)))
      ∙ ap (λ (v : Option Volume). (None, v)) (sym (some_volume on) ∙ sym volume_same)

-- a fault of a command that is refused by NotLif alone
pub answers_fault : (n : ℕ) (t u : Tape) (tape : Option Tape) (command : VolumeCommand) (fault : VolumeFault) → refusal_of n command None ≡ Some NotLif → tape ≡ Some u
    → IsNotLif fault → IsLegalAs {T = Unit {0}} (settled t) (Err fault) → IsSettledAs t tape (store_answer {T = Unit {0}} (Err fault)) → Answers {T = Unit {0}} n command t u (Err fault)
answers_fault n t u tape command (Refused why) refused now only off settles =
    answers_not_lif n t u (behind t u tape now settles) command refused off ∙ ap (λ (r : Refusal). (Some r, volume_of u)) (sym only)
answers_fault n t u tape command (Troubled trouble) refused now only off settles = tt
