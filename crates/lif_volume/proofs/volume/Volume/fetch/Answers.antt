use Rattle.std.proofs.Common.{◌≡◌, ◌<◌, ◌*◌, ◌^◌, inr, ℕ, List, [], ◌∷◌, length, map, refl, sym, ap, subst, ◌∙◌, arith, rules}
use Rattle.std.specs.Prelude.{Bool, Option, Some, Result, Ok, Err, IfSome, is_some, take}
use Rattle.lif_model.specs.Tape.{Tape}
use Rattle.lif_model.specs.Header.{HeaderParts}
use Rattle.lif_model.specs.Directory.{slots_of, start_of}
use Rattle.lif_model.specs.Redo.{redo_of, settled}
use Rattle.lif_model.specs.Commit.{IsSettleWrite}
use Rattle.lif_model.specs.Legal.{slot_named}
use Rattle.lif_model.specs.Apply.{Fetch, refusal_of}
use Rattle.lif_model.proofs.Redo.{length_settled}
use Rattle.lif_dir.specs.Entries.{name_bytes, slot_bytes}
use Rattle.lif_volume.specs.declared.fault.VolumeFault.{VolumeFault}
use Rattle.lif_volume.specs.declared.volume.Fetched.{Fetched}
use Rattle.lif_volume.specs.declared.volume.Volume.{Volume}
use Rattle.lif_plan.specs.Directories.{IsLegalDirectory}
use Rattle.lif_volume.specs.Views.{IsDirectoryOf}
use Rattle.lif_volume.specs.Answers.{refused, troubled}
use Rattle.il_ports.specs.declared.records.Trouble.{Trouble}
use Rattle.il_ports.specs.Transfers.{GoesOnBy}
use Rattle.il_ports.specs.Stores.{GoesOn}
use Rattle.il_ports.proofs.Stores.{goes_within}
use Rattle.lif_volume.specs.Commands.{EndsWithRead, mounting, fetching}
use Rattle.lif_model.specs.declared.refusal.Refusal.TheVariants as refusal
use Rattle.lif_volume.proofs.Joining.{long_there, fetch_bound, not_lif_only}
use Rattle.lif_volume.specs.Seen.{seen}
use Rattle.lif_volume.proofs.Mounting.{behind, kept_is_of, nothing_mounted, stays_reading, settles_reading, answers_fault, answers_refused, answers_fetch}
use Rattle.lif_volume.proofs.Fetching.{legal_of, file_ready, file_within, file_room, file_goes_on, file_few, file_idle, fetching_kept, open_reading, ends_with_read, run_behind, file_is_fetched}
use Rattle.lif_volume.proofs.Renewing.{names_there}
use Rattle.lif_volume.proofs.volume.Volume.fetch.Goals as goal

-- an error is no answer with Ok
err_is_no_ok : (e : Trouble) → ◌≡◌ {A = Result (Unit {0}) Trouble} (Err e) (Ok tt) → ⊥
err_is_no_ok e is = cc

pub file_named-requires : goal.file_named-requires
file_named-requires g c =
    let e = c.in_ok-mount.ensures in
    record { distinct = names_there g.R.Records.view (seen c.args.self.now) (seen c.mount.new.self) c.in_ok-mount.field-0 e.open e.kept e.consults }

pub read_front-requires : goal.read_front-requires
read_front-requires g c =
    let x = seen c.args.self.now in
    let y = seen c.mount.new.self in
    let view = g.R.Records.view in
    let n = (view c.args.self.now.records).record_count in
    let e = c.in_ok-mount.ensures in
    let header : HeaderParts = c.in_ok-mount.field-0 in
    let file = c.in_ok-file.ensures.slot in
    let legal : IsLegalDirectory n header (map slot_bytes y.slots) = legal_of view y header n e.open e.kept e.consults.goes_on.continues.size in
    record {
      ready = file_ready view x y header (name_bytes c.args.name.now) file.0 c.in_ok-file.file.count c.requires.open.size e.kept e.consults legal file.1 file.2.count c.requires.ready.left;
      small = subst (λ (n : ℕ). n < 2 ^ 16) (sym e.consults.goes_on.continues.size) c.requires.open.small;
      within = file_within view x y header (name_bytes c.args.name.now) file.0 c.in_ok-file.file.count c.requires.open.size e.kept e.consults legal file.1 file.2.count c.in_ok-file.file.first file.2.first;
      room = file_room view x y header (name_bytes c.args.name.now) file.0 c.in_ok-file.file.count c.requires.open.size e.kept e.consults legal file.1 file.2.count (length c.args.into.now) c.requires.room;
    }

pub returns-in_err-mount-clause-did : goal.returns-in_err-mount-clause-did
returns-in_err-mount-clause-did g c = record {
  consults = search rules;
  only = (let is : c.from_residual.result ≡ Err c.in_err-mount.field-0.0 = search rules in rw is (not_lif_only (refusal.Protected ∷ refusal.NoFile ∷ []) c.in_err-mount.field-0.0 c.in_err-mount.ensures.only));
  answers = λ t u told now.
      (let is : c.from_residual.result ≡ Err c.in_err-mount.field-0.0 = search rules in
      let e = c.in_err-mount.ensures in
      rw is (answers_fault (g.R.Records.view c.args.self.now.records).record_count t u _ (Fetch (name_bytes c.args.name.now)) c.in_err-mount.field-0.0 refl now e.only (e.exactly t told) (e.consults.settles t told)));
  settling = search rules;
  stays = search rules;
  transfers = search rules;
}

pub returns-in_err-file-clause-did : goal.returns-in_err-file-clause-did
returns-in_err-file-clause-did g c = record {
  consults =
      let is : c.from_residual-in_err-file.result ≡ Err (refused c.in_err-file.field-0.0) = search rules in
      let x = seen c.args.self.now in
      let y = seen c.mount.new.self in
      let view = g.R.Records.view in
      let n = (view c.args.self.now.records).record_count in
      let e = c.in_ok-mount.ensures in
      let header : HeaderParts = c.in_ok-mount.field-0 in
      let failed : Result Fetched VolumeFault = Err (refused c.in_err-file.field-0.0) in
      rw is (record {
        goes_on = goes_within (mounting n x.kept (Some header)) (fetching n (name_bytes c.args.name.now) x.kept (map slot_bytes x.slots) failed) _ _ _
            (fetch_bound n (name_bytes c.args.name.now) x.kept header (map slot_bytes x.slots) failed (long_there view x y header e.kept e.consults e.open))
            (subst (λ (o : Option HeaderParts). GoesOn {T = Unit {0}} (mounting n x.kept o) (view x.records) (view y.records) (Ok tt)) e.kept e.consults.goes_on);
        few = λ t told. omega (arith, e.consults.few t told);
        idle = λ none. e.consults.idle (nothing_mounted n x.kept y.kept (fetching_kept n (name_bytes c.args.name.now) x.kept (map slot_bytes x.slots) failed none));
        settles = e.consults.settles;
        kept = e.consults.kept ∙ sym c.in_err-file.ensures.known;
      });
  only =
      let is : c.from_residual-in_err-file.result ≡ Err (refused c.in_err-file.field-0.0) = search rules in
      rw is (inr c.in_err-file.ensures.only);
  answers =
      let x = seen c.args.self.now in
      let y = seen c.mount.new.self in
      let view = g.R.Records.view in
      let n = (view c.args.self.now.records).record_count in
      let e = c.in_ok-mount.ensures in
      let header : HeaderParts = c.in_ok-mount.field-0 in
      λ t u told now.
      let is : c.from_residual-in_err-file.result ≡ Err (refused c.in_err-file.field-0.0) = search rules in
      let on : IsDirectoryOf (settled t) header c.mount.new.self.directory.table.slots =
      kept_is_of y header (settled t) e.kept (e.open.known (settled t) (e.consults.settles t told)) in
      let size : c.size.result ≡ n = c.size.ensures ∙ e.consults.goes_on.continues.size in
      rw is (answers_refused n t u (behind t u _ now (e.consults.settles t told)) (Fetch (name_bytes c.args.name.now)) c.in_err-file.field-0.0 (e.exactly t told)
      (λ v same. ap (λ (m : ℕ). refusal_of m (Fetch (name_bytes c.args.name.now)) (Some v)) (sym size) ∙ c.in_err-file.ensures.refusal v (same ∙ sym on.directory.bytes)));
  settling = search rules;
  stays = search rules;
  transfers = search rules;
}

pub returns-in-Err-clause-did : goal.returns-in-Err-clause-did
returns-in-Err-clause-did g c = record {
  consults =
      let x = seen c.args.self.now in
      let y = seen c.mount.new.self in
      let view = g.R.Records.view in
      let n = (view c.args.self.now.records).record_count in
      let e = c.in_ok-mount.ensures in
      let header : HeaderParts = c.in_ok-mount.field-0 in
      let file = c.in_ok-file.ensures.slot in
      let legal : IsLegalDirectory n header (map slot_bytes y.slots) = legal_of view y header n e.open e.kept e.consults.goes_on.continues.size in
      let on : (t : Tape) → (view c.args.self.now.records).tape ≡ Some t → IsDirectoryOf (settled t) header c.mount.new.self.directory.table.slots = λ t told.
      kept_is_of y header (settled t) e.kept (e.open.known (settled t) (e.consults.settles t told)) in
      let failed : Result (Unit {0}) Trouble = Err c.in-Err.trouble in
      let answer : Result Fetched VolumeFault = Err (troubled c.in-Err.trouble) in
      record {
        goes_on = file_goes_on view x y header (name_bytes c.args.name.now) file.0 c.in_ok-file.file.count c.requires.open.size e.kept e.consults legal file.1 file.2.count c.read_front.new.records failed answer (λ s. refl) (λ h k. let both = subst (λ (o : Option HeaderParts). IfSome o (λ p. (◌≡◌ {A = Result HeaderParts VolumeFault} (Ok header) (Ok p)) × (c.mount.new.self ≡ c.args.self.now))) k e.still in
            ap (λ (v : Volume g.row.R.Denot). map slot_bytes v.directory.table.slots) both.1) c.in-Err.ensures.goes_on;
        few = λ t told. file_few view x y header (name_bytes c.args.name.now) file.0 c.in_ok-file.file.count c.requires.open.size e.kept e.consults legal file.1 file.2.count c.read_front.new.records failed answer (λ s. refl) t told (on t told).directory.bytes c.in-Err.ensures.goes_on;
        idle = λ none.
            let zero = (file_idle view x y header (name_bytes c.args.name.now) file.0 c.in_ok-file.file.count c.requires.open.size e.kept e.consults legal file.1 file.2.count answer (λ s. refl) (λ h k. let both = subst (λ (o : Option HeaderParts). IfSome o (λ p. (◌≡◌ {A = Result HeaderParts VolumeFault} (Ok header) (Ok p)) × (c.mount.new.self ≡ c.args.self.now))) k e.still in
            ap (λ (v : Volume g.row.R.Denot). map slot_bytes v.directory.table.slots) both.1) none).1 in
            let clash = (c.read_front.ensures.none zero).0 in
            absurd (err_is_no_ok c.in-Err.trouble (sym (search rules) ∙ clash));
        settles = λ t told. tt;
        kept = refl;
      };
  only = tt;
  answers = λ t u told now. tt;
  settling =
      let e = c.in_ok-mount.ensures in
      λ t told. settles_reading _ t _ _ (e.settling t told) c.read_front.ensures.quiet;
  stays =
      let e = c.in_ok-mount.ensures in
      λ t told off. stays_reading _ t off _ _ (e.stays t told off) c.read_front.ensures.quiet;
  transfers = λ t told. tt;
}

pub returns : goal.returns
returns g c =
    let x = seen c.args.self.now in
    let y = seen c.mount.new.self in
    let view = g.R.Records.view in
    let n = (view c.args.self.now.records).record_count in
    let e = c.in_ok-mount.ensures in
    let header : HeaderParts = c.in_ok-mount.field-0 in
    let file = c.in_ok-file.ensures.slot in
    let legal : IsLegalDirectory n header (map slot_bytes y.slots) = legal_of view y header n e.open e.kept e.consults.goes_on.continues.size in
    let on : (t : Tape) → (view c.args.self.now.records).tape ≡ Some t → IsDirectoryOf (settled t) header c.mount.new.self.directory.table.slots = λ t told.
    kept_is_of y header (settled t) e.kept (e.open.known (settled t) (e.consults.settles t told)) in
    let size : c.size.result ≡ n = c.size.ensures ∙ e.consults.goes_on.continues.size in
    let P : Tape → ℕ → Type 0 = λ t. IsSettleWrite n (redo_of t) in
    let old = (view c.args.self.now.records).transferred in
    let new = (view c.read_front.new.records).transferred in
    let done : Result (Unit {0}) Trouble = Ok tt in
    let answer : Result Fetched VolumeFault = Ok (record { kind = c.in_ok-file.file.kind; implementation = c.in_ok-file.file.implementation; length = 256 * c.in_ok-file.file.count }) in
    record {
      «open» = open_reading view y c.read_front.new.records e.open c.in_default.ensures.goes_on.continues.valid c.in_default.ensures.goes_on.continues.size c.read_front.ensures.quiet.tape;
      did = record {
        consults = record {
          goes_on = file_goes_on view x y header (name_bytes c.args.name.now) file.0 c.in_ok-file.file.count c.requires.open.size e.kept e.consults legal file.1 file.2.count c.read_front.new.records done answer (λ s. refl) (λ h k. let both = subst (λ (o : Option HeaderParts). IfSome o (λ p. (◌≡◌ {A = Result HeaderParts VolumeFault} (Ok header) (Ok p)) × (c.mount.new.self ≡ c.args.self.now))) k e.still in
              ap (λ (v : Volume g.row.R.Denot). map slot_bytes v.directory.table.slots) both.1) c.in_default.ensures.goes_on;
          few = λ t told. file_few view x y header (name_bytes c.args.name.now) file.0 c.in_ok-file.file.count c.requires.open.size e.kept e.consults legal file.1 file.2.count c.read_front.new.records done answer (λ s. refl) t told (on t told).directory.bytes c.in_default.ensures.goes_on;
          idle = λ none.
              let both = file_idle view x y header (name_bytes c.args.name.now) file.0 c.in_ok-file.file.count c.requires.open.size e.kept e.consults legal file.1 file.2.count answer (λ s. refl) (λ h k. let both = subst (λ (o : Option HeaderParts). IfSome o (λ p. (◌≡◌ {A = Result HeaderParts VolumeFault} (Ok header) (Ok p)) × (c.mount.new.self ≡ c.args.self.now))) k e.still in
              ap (λ (v : Volume g.row.R.Denot). map slot_bytes v.directory.table.slots) both.1) none in
              (c.in_default.ensures.none both.1).1 ∙ e.consults.idle (nothing_mounted n x.kept y.kept both.0);
          settles = λ t told. c.read_front.ensures.quiet.tape ∙ e.consults.settles t told;
          kept = e.consults.kept;
        };
        only = tt;
        answers = λ t u told now.
            answers_fetch n t u (behind t u _ now (c.read_front.ensures.quiet.tape ∙ e.consults.settles t told)) (name_bytes c.args.name.now) (e.exactly t told)
            (λ v same. ap (λ (m : ℕ). refusal_of m (Fetch (name_bytes c.args.name.now)) (Some v)) (sym size) ∙ c.in_ok-file.ensures.refusal v (same ∙ sym (on t told).directory.bytes));
        settling = λ t told. settles_reading _ t _ _ (e.settling t told) c.read_front.ensures.quiet;
        stays = λ t told off. stays_reading _ t off _ _ (e.stays t told off) c.read_front.ensures.quiet;
        transfers = λ t told.
            run_behind (P t) c.in_ok-file.file.first c.in_ok-file.file.count _ old _ (view c.read_front.new.records).transferred (e.transfers t told) c.in_default.ensures.run
            (λ none. subst (λ (r : g.row.R.Denot). GoesOnBy (P t) old (view r).transferred) (sym (c.in_default.ensures.none none).1) (e.transfers t told));
      };
      fetched = λ t told.
          let long : length (settled t) ≡ n = length_settled t ∙ ((g.met.R.Records.is_store c.args.self.now.records).is_tape t told).records in
          file_is_fetched n t (map slot_bytes y.slots) (name_bytes c.args.name.now) file.0 c.in_ok-file.file c.read_front.new.into long (e.exactly t told) (on t told).directory.bytes file.1 file.2
          (λ v same. ap (λ (m : ℕ). refusal_of m (Fetch (name_bytes c.args.name.now)) (Some v)) (sym size) ∙ c.in_ok-file.ensures.refusal v same)
          (c.in_default.ensures.content (settled t) (e.consults.settles t told));
      run = λ t told some.
          let here : slot_named (slots_of (settled t)) (name_bytes c.args.name.now) ≡ Some file.0 = ap (λ (s : List (List ℕ)). slot_named s (name_bytes c.args.name.now)) (sym (on t told).directory.bytes) ∙ file.1 in
          let bytes : List ℕ = take (256 * c.in_ok-file.file.count) c.read_front.new.into in
          let kept : Bool = is_some x.kept in
          let read : EndsWithRead (P t) kept (start_of file.0) bytes old new = subst (λ (k : ℕ). EndsWithRead (P t) kept k bytes old new) file.2.first
          (ends_with_read (P t) kept c.in_ok-file.file.first bytes old _ new (λ on. ap (λ (r : g.row.R.Denot). (view r).transferred) (e.consults.idle (nothing_mounted n x.kept y.kept on)))
          (e.transfers t told) (c.in_default.ensures.run (omega (arith, some)))) in
          subst (λ (o : Option (List ℕ)). IfSome o (λ slot. EndsWithRead (P t) kept (start_of slot) bytes old new)) (sym here) read;
    }
