-- A command of the volume after a packing was finished: what the two do together, in the volumes that are shown.
use Rattle.std.proofs.Common.{◌≡◌, ◌∙◌, ◌<◌, ◌≤◌, ◌+◌, ◌&&◌, ◌==◌, ℕ, Bool, true, false, not, if◌then◌else◌, List, [], length, Option, Some, None, inl, inr, refl, sym, ap, subst, arith}
use Rattle.std.specs.Prelude.{Result, Ok, Err, is_some, IfSome}
use Rattle.lif_model.specs.Tape.{Tape, IsTape, record_at}
use Rattle.lif_model.specs.Header.{directory_length, is_readable}
use Rattle.lif_model.specs.Directory.{slots_of}
use Rattle.lif_model.specs.declared.version.Version.TheVariants.{Two}
use Rattle.lif_model.specs.Redo.{Changes, is_none, redo_start, settled}
use Rattle.lif_model.specs.Commit.{SettlesAs}
use Rattle.lif_model.specs.Volume.{Volume, IsVolume, volume_of, is_foreign_gated, is_gate_held}
use Rattle.lif_model.specs.Apply.{VolumeCommand, Fetch, is_upgraded, apply}
use Rattle.lif_model.specs.Transfers.{Transfer}
use Rattle.lif_model.specs.declared.refusal.Refusal.{Refusal}
use Rattle.lif_model.proofs.Directory.{settled_shape, volume_in_is, volume_tells}
use Rattle.lif_model.proofs.Moments.{follows, weaker}
use Rattle.lif_model.proofs.Redo.{length_settled, settled_has_none}
use Rattle.il_ports.specs.Stores.{RecordsView, IsStore}
use Rattle.il_ports.specs.declared.records.Trouble.{Trouble}
use Rattle.lif_volume.specs.Views.{VolumeView}
use Rattle.lif_volume.specs.Changing.{HasEitherVolume, SettlesForeign, TurnsVolume}
use Rattle.lif_volume.specs.Answers.{Answers}
use Rattle.lif_volume.specs.Commands.{AnswersTo, IsTold, SettlesOnly, directory_records, records_named}
use Rattle.lif_volume.specs.declared.fault.VolumeFault.{VolumeFault}
use Rattle.lif_volume.specs.declared.fault.VolumeFault.TheVariants.{Refused, Trouble as Troubled}
use Rattle.lif_volume.proofs.Gated.{held_settled}
use Rattle.lif_model.specs.Packing.{bears_mark, has_mark, finished, finished_volume, finished_volume_of, marked_count, marked_slot, redo_slot}
use Rattle.lif_pack.specs.Tasks.{IsShownAs}
use Rattle.lif_model.specs.Finished.{IsFinished}
use Rattle.lif_pack.proofs.Finishes.{finished_shape, finished_unmarked, finishes, unmarked_volume}
use Rattle.lif_pack.proofs.Stopped.{upgraded_not_held}
use Rattle.lif_pack.proofs.Unmarked.{clear_behind}
use Rattle.il_frames.specs.declared.entry.Entry.{Entry}
use Rattle.loop_model.specs.Effect.{Transferred}
use Rattle.host_model.specs.Requests.{Asks, Item, OfVolume}
use Rattle.host_model.specs.LoopStates.{ring_of}
use Rattle.host_model.specs.HostStates.{HostState}
use Rattle.host_model.specs.Directories.{AsksLittle, IsKeptBehind}
use Rattle.il_host.proofs.LeftTapes.{TapeLeftFirst, left_failed, left_first}
use Rattle.il_host.specs.HostView.{calls_to_pack, calls_to_prepare, most_beside, records_asked}
use Rattle.il_host.specs.Hosts.{IsUnmarked}
use Rattle.il_host.specs.Preparing.{Finishes}
use Rattle.il_host.specs.Standings.{fault_of, volume_reply}
use Rattle.il_host.proofs.FileCarries.{told_still}
use Rattle.il_host.proofs.KeptDirectories.{Minds, few_beside, few_mounted, forgets_it, kept_longer}
use Rattle.il_host.proofs.VolumeReplied.{AnswersShown, ShownTurns, ShowsEither, TurnsSo}

-- ---- the tape that is finished

-- the tape t as the store f has it finished
pub record FinishedAs {R S : Type 0} (view : R → RecordsView S) (f : VolumeView R) (n : ℕ) (t : Tape) : Type 0 where
  pub tape : Tape
  pub told : IsTold view f tape
  pub finished : IsFinished t tape
  pub is_tape : IsTape n tape
  pub clear : has_mark n (volume_of tape) ≡ false

-- a tape of n records with a volume without a mark shows it
pub shown_by : (n : ℕ) (x : Tape) (v : Option Volume) → length x ≡ n → volume_of x ≡ v → has_mark n v ≡ false → finished_volume_of x ≡ v
shown_by n x v long is clear =
    unmarked_volume x ((λ i. has_mark (long i) (is i)) ∙ clear) ∙ is

-- one tape is told
pub same_told : (tape : Option Tape) (t u : Tape) → tape ≡ Some t → tape ≡ Some u → t ≡ u
same_told tape t u one two = let both : Some t ≡ Some u = sym one ∙ two in cc

-- a tape whose gate record is held has no mark
pub held_unmarked : (t : Tape) → is_gate_held (settled t) ≡ true → has_mark (length t) (volume_of t) ≡ false
held_unmarked t held = by (volume_of t) refl
  where
    by_version : (v : Volume) (two : Bool) → volume_of t ≡ Some v → is_upgraded (length t) v ≡ two → bears_mark (length t) v ≡ false
    by_version v false is off = ap (λ b. b && not ((marked_slot (redo_slot v) == 0) && (marked_count (redo_slot v) == 0))) off
    by_version v true is up =
        let clash : true ≡ false = sym held ∙ upgraded_not_held (length t) (settled t) v (length_settled t) is up in cc

    by : (o : Option Volume) → volume_of t ≡ o → has_mark (length t) o ≡ false
    by None is = refl
    by (Some v) is = by_version v (is_upgraded (length t) v) is refl

-- a tape without a volume is finished to none
none_unfinished : (n : ℕ) (t : Tape) → IsTape n t → finished_volume_of t ≡ None → volume_of t ≡ None
none_unfinished n t is none = by (volume_of t) refl
  where
    by : (o : Option Volume) → volume_of t ≡ o → o ≡ None
    by None here = refl
    by (Some v) here = let clash : Some (finished_volume v (settled t)) ≡ None = sym (finishes n t v is here).volume ∙ none in cc

-- its directory, and the records of a file of it, are those of the finished tape
same_slots : (t u : Tape) (v : Option Volume) → volume_of u ≡ v → finished_volume_of t ≡ v → (v ≡ None → settled u ≡ finished t) → slots_of (settled u) ≡ slots_of (finished t)
same_slots t u None here there none = ap slots_of (none refl)
same_slots t u (Some v) here there none = sym (volume_tells (settled u) v here).2 ∙ (volume_tells (finished t) v there).2

-- ---- what is said of a command of the volume, and of what comes before it

pub record MindsFirst {R S T : Type 0} (view : R → RecordsView S) (x y : VolumeView R) (command : VolumeCommand) (answer : Result T VolumeFault) : Type 0 where
  pub kept : IsKeptBehind command (is_some x.kept) (volume_reply answer) (is_some y.kept)
  pub log : is_some x.kept ≡ true → (s : HostState) (log : List Entry) → s.tape ≡ (view x.records).tape → s.records ≡ (view x.records).record_count → (y.records ≡ x.records → log ≡ [])
      → ((list : List Transfer) → (view y.records).transferred list → Transferred (ring_of s.loop) log list) → AsksLittle command (volume_reply answer) s log
  pub on_tape : (t : Tape) → (view x.records).tape ≡ Some t → (view x.records).calls_left ≤ (view y.records).calls_left
      + (directory_records (finished t) + records_asked (Asks (OfVolume command)) (finished t) + 160 + calls_to_prepare (view x.records).record_count (volume_of t))
  pub from_kept : (t : Tape) → (view x.records).tape ≡ Some t → is_some x.kept ≡ true → (view x.records).calls_left + 1 ≤ (view y.records).calls_left + (records_asked (Asks (OfVolume command)) (finished t) + most_beside (Asks (OfVolume command)))
  pub unmarked : IsUnmarked view y
  pub tape : TapeLeftFirst view x y command answer

-- ---- a packing is finished between m and f, or none is to be, and then comes the command

module _ {R S : Type 0} (view : R → RecordsView S) (m f n : VolumeView R) (law : (r : R) → IsStore (view r)) (first : Finishes {T = Unit {0}} view m f (Ok tt))
    (still : is_some m.kept ≡ true → f ≡ m) (unmarked : IsUnmarked view m) (wide : 37 < (view m.records).record_count) (command : VolumeCommand) where
  abbrev count : ℕ
  count = (view m.records).record_count

  size : (view f.records).record_count ≡ count
  size = first.goes_on.continues.size

  pub behind : (t : Tape) → IsTold view m t → FinishedAs view f count t
  behind t told =
      let so = first.finished t told in
      let is : IsTape count so.0 = subst (λ (k : ℕ). IsTape k so.0) size ((law f.records).is_tape so.0 so.1) in
      record { tape = so.0; told = so.1; finished = so.2; is_tape = is; clear = sym (ap (λ (k : ℕ). has_mark k (volume_of so.0)) is.records) ∙ so.2.clear }

  -- the tape that is finished has a gate of its own
  own_behind : (t : Tape) (told : IsTold view m t) → is_foreign_gated (behind t told).tape ≡ false
  own_behind t told =
      let b = behind t told in
      ap (λ (cs : Changes). not (is_none cs) && is_gate_held (settled b.tape)) (settled_has_none b.tape b.finished.is_settled)

  -- ---- stops

  module _ (t : Tape) (told : IsTold view m t) where
    abbrev u : Tape
    u = (behind t told).tape

    abbrev shown : volume_of u ≡ finished_volume_of t
    shown = (behind t told).finished.volume

    is_volume : IfSome (volume_of u) (IsVolume count)
    is_volume = by (volume_of u) refl
      where
        by : (v : Option Volume) → volume_of u ≡ v → IfSome v (IsVolume count)
        by None is = tt
        by (Some v) is = volume_in_is count (settled u) v (settled_shape count u (behind t told).is_tape) is

    -- what the command leaves has no mark
    left_clear : (c : Tape) → HasEitherVolume (view f.records).record_count command u c → has_mark count (volume_of c) ≡ false
    left_clear c has = elim has.volume [
      | inl e ↦ ap (has_mark count) e ∙ (behind t told).clear
      | inr e ↦ ap (has_mark count) (e.1 ∙ ap (λ k. (apply k command (volume_of u)).1) size) ∙ clear_behind count command (volume_of u) e.0 is_volume (behind t told).clear
    ]

    left_shown : (c : Tape) → HasEitherVolume (view f.records).record_count command u c → finished_volume_of c ≡ volume_of c
    left_shown c has = shown_by count c (volume_of c) (has.records ∙ (behind t told).is_tape.records) refl (left_clear c has)

    left : (c : Tape) → HasEitherVolume (view f.records).record_count command u c → ShowsEither count command t c
    left c has = record {
      volume = elim has.volume [
        | inl e ↦ inl (left_shown c has ∙ e ∙ shown)
        | inr e ↦ inr (left_shown c has ∙ e.1 ∙ (λ i. (apply (size i) command (shown i)).1))
      ];
      own_gate = has.own_gate;
    }

    pub turned : TurnsVolume command view f n → is_foreign_gated t ≡ false → ShownTurns count command (view m.records) (view n.records) t
    turned turns own =
        let begun = first.shown t told own in
        let next = turns u (behind t told).told (own_behind t told) in
        record {
          stops = follows _ _ _ _ _ _ (ShowsEither count command t) (HasEitherVolume (view f.records).record_count command u)
              (weaker _ _ _ _ (ShowsEither count command t) (IsShownAs t) begun.stops (λ c is. record { volume = inl is.volume; own_gate = is.own_gate }))
              next.stops left;
          after = (next.after.0, next.after.1, left next.after.0 next.after.2);
        }

    -- where a file that is not ours holds the gate record, nothing is changed but by settling
    pub held : SettlesForeign view f n → is_foreign_gated t ≡ true → SettlesOnly (view m.records) (view n.records) t
    held settles foreign =
        let gate = held_settled t foreign in
        let begun = first.foreign t told gate in
        let quiet : u ≡ settled t = (behind t told).finished.plain (held_unmarked t gate) in
        let again : settled u ≡ settled t = (behind t told).finished.is_settled ∙ quiet in
        let next = settles u (behind t told).told (ap is_gate_held again ∙ gate) in
        record {
          stops = follows _ _ _ _ _ _ (SettlesAs (settled t)) (SettlesAs (settled u)) begun.stops next.stops (λ c is. subst (λ (x : Tape). SettlesAs x c) again is);
          after = (next.after.0, next.after.1, subst (λ (x : Tape). SettlesAs x next.after.0) again next.after.2);
        }

    -- ---- the tape after the command

    pub clear_now : TurnsVolume command view f n → (c : Tape) → IsTold view n c → (has_mark count (volume_of c) ≡ false) × (finished_volume_of c ≡ volume_of c)
    clear_now turns c now =
        let next = (turns u (behind t told).told (own_behind t told)).after in
        let same : next.0 ≡ c = same_told (view n.records).tape next.0 c next.1 now in
        (ap (λ x. has_mark count (volume_of x)) (sym same) ∙ left_clear next.0 next.2, subst (λ (x : Tape). finished_volume_of x ≡ volume_of x) same (left_shown next.0 next.2))

    pub answered : {T : Type 0} (answer : Result T VolumeFault) → TurnsVolume command view f n → AnswersTo command view f n answer → (c : Tape) → IsTold view n c → AnswersShown count command t c answer
    answered {T = T} answer turns answers c now = by answer (answers u c (behind t told).told now)
      where
        here : (why : Option Refusal) → apply (view f.records).record_count command (volume_of u) ≡ (why, volume_of c) → apply count command (finished_volume_of t) ≡ (why, finished_volume_of c)
        here why is = sym (λ i. apply (size i) command (shown i)) ∙ is ∙ ap (λ v. (why, v)) (sym (clear_now turns c now).1)

        by : (answer : Result T VolumeFault) → Answers (view f.records).record_count command u c answer → AnswersShown count command t c answer
        by (Ok x) is = here None is
        by (Err (Refused why)) is = here (Some why) is
        by (Err (Troubled e)) is = tt

    -- ---- how many records it reads and writes

    same_directory : directory_records (settled u) ≡ directory_records (finished t)
    same_directory =
        let quiet : settled u ≡ u = (behind t told).finished.is_settled in
        let shape = (law m.records).is_tape t told in
        let long : length u ≡ length (finished t) = (behind t told).is_tape.records ∙ sym (finished_shape count t shape).records in
        let zero : record_at u 0 ≡ record_at (finished t) 0 = (behind t told).finished.below 0 (omega (arith, has_redo)) in
        ap directory_records quiet ∙ (λ i. if is_readable (long i) (zero i) then directory_length (zero i) else 0)
      where
        has_redo : 0 < redo_start Two (length t)
        has_redo = omega (arith, wide, ((law m.records).is_tape t told).records)

    same_asked : records_asked (Asks (OfVolume command)) (settled u) ≡ records_asked (Asks (OfVolume command)) (finished t)
    same_asked = by command
      where
        slots : slots_of (settled u) ≡ slots_of (finished t)
        slots = same_slots t u (volume_of u) refl (sym shown) (λ none.
            let plain : volume_of t ≡ None = none_unfinished count t ((law m.records).is_tape t told) (sym shown ∙ none) in
            (behind t told).finished.is_settled ∙ (behind t told).finished.plain (ap (has_mark (length t)) plain) ∙ sym (finished_unmarked t (ap (has_mark (length t)) plain)))

        by : (command : VolumeCommand) → records_asked (Asks (OfVolume command)) (settled u) ≡ records_asked (Asks (OfVolume command)) (finished t)
        by (Fetch name) = ap (λ slots. records_named slots name) slots
        by _ = refl

    -- where the directory is kept the tape is finished
    quiet : has_mark count (volume_of t) ≡ false → finished t ≡ settled t
    quiet clear = finished_unmarked t (ap (λ (k : ℕ). has_mark k (volume_of t)) ((law m.records).is_tape t told).records ∙ clear)

  module _ {T : Type 0} (answer : Result T VolumeFault) (minds : Minds view f n command answer) where
    abbrev item : Item
    item = Asks (OfVolume command)

    minds_still : is_some m.kept ≡ true → Minds view m n command answer
    minds_still on = subst (λ (x : VolumeView R). Minds view x n command answer) (still on) minds

    on_tape : (t : Tape) → IsTold view m t → (view m.records).calls_left ≤ (view n.records).calls_left
        + (directory_records (finished t) + records_asked item (finished t) + 160 + calls_to_prepare count (volume_of t))
    on_tape t told = by (is_some m.kept) refl
      where
        u_told : IsTold view f (u t told)
        u_told = (behind t told).told

        -- it may take all that a packing takes
        long : calls_to_prepare count (volume_of t) ≡ calls_to_pack count → (view m.records).calls_left ≤ (view n.records).calls_left
            + (directory_records (finished t) + records_asked item (finished t) + 160 + calls_to_prepare count (volume_of t))
        long all = omega (arith, first.goes_on.continues.left, minds.on_tape (u t told) u_told, same_directory t told, same_asked t told, all)

        short : (v : Volume) → volume_of t ≡ Some v → bears_mark count v ≡ false → (view m.records).calls_left ≤ (view n.records).calls_left
            + (directory_records (finished t) + records_asked item (finished t) + 160 + calls_to_prepare count (volume_of t))
        short v is clear =
            let mounts = first.mounts t v told is clear in
            let rest = minds.from_kept (u t told) u_told mounts.keeps in
            let whole = ap directory_records (quiet t told (ap (has_mark count) is ∙ clear)) in
            omega (arith, mounts.few, few_mounted t m.kept, rest, few_beside command, whole, same_asked t told)

        by_mark : (v : Volume) (mark : Bool) → volume_of t ≡ Some v → bears_mark count v ≡ mark → (view m.records).calls_left ≤ (view n.records).calls_left
            + (directory_records (finished t) + records_asked item (finished t) + 160 + calls_to_prepare count (volume_of t))
        by_mark v true is on = long (ap (calls_to_prepare count) is ∙ ap (λ b. if b then calls_to_pack count else 0) on)
        by_mark v false is off = short v is off

        by_volume : (o : Option Volume) → volume_of t ≡ o → (view m.records).calls_left ≤ (view n.records).calls_left
            + (directory_records (finished t) + records_asked item (finished t) + 160 + calls_to_prepare count (volume_of t))
        by_volume None is = long (ap (calls_to_prepare count) is)
        by_volume (Some v) is = by_mark v (bears_mark count v) is refl

        by : (kept : Bool) → is_some m.kept ≡ kept → (view m.records).calls_left ≤ (view n.records).calls_left
            + (directory_records (finished t) + records_asked item (finished t) + 160 + calls_to_prepare count (volume_of t))
        by true on =
            let same = quiet t told (unmarked t told on) in
            omega (arith, (minds_still on).on_tape t told, ap directory_records same, ap (records_asked item) same)
        by false off = by_volume (volume_of t) refl

    pub minds_first : (none : (view m.records).transferred []) → TurnsVolume command view f n → is_some (view n.records).tape ≡ is_some (view m.records).tape → (view n.records).record_count ≡ count
        → MindsFirst view m n command answer
    minds_first none turns told_so size_n = record {
      kept = kept_longer command (is_some m.kept) (is_some f.kept) (volume_reply answer) (is_some n.kept) (λ on. ap (λ (v : VolumeView R). is_some v.kept) (still on) ∙ on) minds.kept;
      log = λ on. (minds_still on).log on none;
      on_tape = on_tape;
      from_kept = λ t told on.
          let same = quiet t told (unmarked t told on) in
          omega (arith, (minds_still on).from_kept t told on, ap (records_asked item) same);
      unmarked = λ c now on.
          let t = told_still (view n.records).tape (view m.records).tape c (sym told_so) now in
          ap (λ (k : ℕ). has_mark k (volume_of c)) size_n ∙ (clear_now t.0 t.1 turns c now).0;
      tape = left_first view m f n command size (λ t told. ((law m.records).is_tape t told).records) first.finished (λ t told off. (first.writes t told off).1) answer minds.tape;
    }

  -- what the two leave of the store
  pub turns_first : TurnsVolume command view f n → SettlesForeign view f n → TurnsSo command view m n
  turns_first turns settles = (λ t told own. turned t told turns own, λ t told foreign. held t told settles foreign)

-- ---- a packing could not be finished

module _ {R S : Type 0} (view : R → RecordsView S) (m f : VolumeView R) (law : (r : R) → IsStore (view r)) (e : Trouble) (fails : Finishes {T = Unit {0}} view m f (Err e)) (off : is_some m.kept ≡ false) (command : VolumeCommand) where
  pub turns_failed : TurnsSo command view m f
  turns_failed = (
    λ t told own.
        let so = fails.shown t told own in
        record {
          stops = weaker _ _ _ _ (ShowsEither (view m.records).record_count command t) (IsShownAs t) so.stops (λ c is. record { volume = inl is.volume; own_gate = is.own_gate });
          after = (so.after.0, so.after.1, record { volume = inl so.after.2.volume; own_gate = so.after.2.own_gate });
        },
    λ t told foreign. fails.foreign t told (held_settled t foreign),
  )

  off_now : is_some f.kept ≡ false
  off_now = ap is_some fails.forgets

  pub minds_failed : MindsFirst {T = Unit {0}} view m f command (Err (Troubled e))
  minds_failed = record {
    kept = subst (IsKeptBehind command (is_some m.kept) (fault_of e)) (sym off_now) (forgets_it command (is_some m.kept) e);
    log = λ on. let clash : true ≡ false = sym on ∙ off in cc;
    on_tape = on_tape;
    from_kept = λ t told on. let clash : true ≡ false = sym on ∙ off in cc;
    unmarked = λ c now on. let clash : true ≡ false = sym on ∙ off_now in cc;
    tape = left_failed (Unit {0}) view m f command e (λ t told off. (fails.writes t told off).0);
  }
    where
      on_tape : (t : Tape) → IsTold view m t → (view m.records).calls_left ≤ (view f.records).calls_left
          + (directory_records (finished t) + records_asked (Asks (OfVolume command)) (finished t) + 160 + calls_to_prepare (view m.records).record_count (volume_of t))
      on_tape t told = by (volume_of t) refl
        where
          n : ℕ
          n = (view m.records).record_count

          by_mark : (v : Volume) (mark : Bool) → volume_of t ≡ Some v → bears_mark n v ≡ mark → (view m.records).calls_left ≤ (view f.records).calls_left
              + (directory_records (finished t) + records_asked (Asks (OfVolume command)) (finished t) + 160 + calls_to_prepare n (volume_of t))
          by_mark v true is on = omega (arith, fails.goes_on.continues.left, ap (calls_to_prepare n) is ∙ ap (λ b. if b then calls_to_pack n else 0) on)
          by_mark v false is clear =
              let long = ((law m.records).is_tape t told).records in
              let same = finished_unmarked t ((λ i. has_mark (long i) (is i)) ∙ clear) in
              omega (arith, (fails.mounts t v told is clear).few, few_mounted t m.kept, ap directory_records same)

          by : (o : Option Volume) → volume_of t ≡ o → (view m.records).calls_left ≤ (view f.records).calls_left
              + (directory_records (finished t) + records_asked (Asks (OfVolume command)) (finished t) + 160 + calls_to_prepare n (volume_of t))
          by None is = omega (arith, fails.goes_on.continues.left, ap (calls_to_prepare n) is)
          by (Some v) is = by_mark v (bears_mark n v) is refl
