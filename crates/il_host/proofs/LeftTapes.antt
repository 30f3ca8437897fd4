-- What a command of the volume leaves of the tape, and what it writes: as the volume tells it, and from before a packing is finished.
use Rattle.std.proofs.Common.{◌≡◌, ◌∙◌, ◌++◌, ℕ, true, false, List, [], ◌∷◌, length, Option, Some, None, refl, sym, ap, append_assoc, subst}
use Rattle.std.specs.Prelude.{Result, Ok, Err, IfSome, is_some}
use Rattle.lif_model.specs.Tape.{Tape}
use Rattle.lif_model.specs.Header.{HeaderParts}
use Rattle.lif_model.specs.Redo.{Changes, IsSettled, redo_of, settled}
use Rattle.lif_model.specs.Commit.{IsSettleWrite, SettlesAs}
use Rattle.lif_model.specs.Volume.{Volume, volume_in, volume_of}
use Rattle.lif_model.specs.Packing.{has_mark}
use Rattle.lif_model.specs.Apply.{VolumeCommand, Dir, Label, Fetch, Format}
use Rattle.lif_model.specs.declared.refusal.Refusal.{Refusal}
use Rattle.lif_model.specs.declared.refusal.Refusal.TheVariants as refusal
use Rattle.lif_model.specs.Transfers.{Transfer}
use Rattle.lif_model.proofs.Redo.{settled_has_none, settled_twice}
use Rattle.il_ports.specs.Stores.{RecordsView}
use Rattle.il_ports.specs.Transfers.{GoesOnBy, WritesOnly}
use Rattle.il_ports.specs.declared.records.Trouble.{Trouble}
use Rattle.il_ports.specs.declared.records.Trouble.TheVariants as trouble
use Rattle.il_ports.proofs.Transfers.{then_more, wider}
use Rattle.lif_volume.specs.Answers.{IsSettledAs, store_answer}
use Rattle.lif_volume.specs.Views.{VolumeView, IsDirectoryOf, IsOpen}
use Rattle.lif_volume.specs.Commands.{IsTold, OnlySettles, SettlesOnly, WritesBySettling}
use Rattle.lif_volume.specs.Changing.{AddsCommit, IsFilesAndCommit, Writes, WritesByCommit, refused_tape}
use Rattle.lif_model.specs.Changing.{IsWrittenOn}
use Rattle.lif_volume.specs.declared.fault.VolumeFault.{VolumeFault}
use Rattle.lif_volume.specs.declared.fault.VolumeFault.TheVariants.{Refused, Trouble as Troubled}
use Rattle.lif_model.specs.Finished.{IsPlain, IsFinished}
use Rattle.il_script.specs.declared.reply.Reply.{Reply}
use Rattle.il_script.specs.declared.reply.Reply.TheVariants as reply
use Rattle.host_model.specs.Requests.{Asks, OfVolume}
use Rattle.host_model.specs.Tapes.{IsWritten, only_reads, only_settles}
use Rattle.il_host.specs.Hosts.{IsUnmarked}
use Rattle.il_host.specs.Standings.{fault_of, volume_reply}

-- with ok, the tape is what the command makes of a settled one
abbrev pub IsWrittenHere : Reply → VolumeCommand → ℕ → Tape → Tape → Type 0
IsWrittenHere reply.Ok command n t u = IsWrittenOn n command (volume_of t) t u
IsWrittenHere (reply.No c) command n t u = Unit {0}
IsWrittenHere reply.FaultFrame command n t u = Unit {0}
IsWrittenHere reply.FaultMedium command n t u = Unit {0}

-- the list goes on by writes of settling the tape, and then by those of the command's files and commit
abbrev pub AddsFilesAndCommit : ℕ → VolumeCommand → Tape → (old new : List Transfer → Type 0) → Type 0
AddsFilesAndCommit n command t old new = AddsCommit (IsSettleWrite n (redo_of t)) false n command (volume_of t) (settled t) old new

-- of a volume that finds the tape settled
pub record TapeLeft {R S T : Type 0} (view : R → RecordsView S) (x y : VolumeView R) (command : VolumeCommand) (answer : Result T VolumeFault) : Type 0 where
  pub same : only_settles (volume_reply answer) (Asks (OfVolume command)) ≡ true → (t u : Tape) → IsTold view x t → IsTold view y u → IsSettled t → u ≡ t
  pub written : (t u : Tape) → IsTold view x t → IsTold view y u → IsSettled t → IsWrittenHere (volume_reply answer) command (view x.records).record_count t u
  pub writes : only_settles (volume_reply answer) (Asks (OfVolume command)) ≡ true → (t : Tape) → IsTold view x t
      → GoesOnBy (IsSettleWrite (view x.records).record_count (redo_of t)) (view x.records).transferred (view y.records).transferred
  pub reads : only_reads (Asks (OfVolume command)) ≡ true → (t u : Tape) → IsTold view x t → IsTold view y u → SettlesAs (settled t) u
  pub commits : volume_reply answer ≡ reply.Ok → only_reads (Asks (OfVolume command)) ≡ false → (t : Tape) → IsTold view x t
      → AddsFilesAndCommit (view x.records).record_count command t (view x.records).transferred (view y.records).transferred

-- and from before a packing is finished
pub record TapeLeftFirst {R S T : Type 0} (view : R → RecordsView S) (x y : VolumeView R) (command : VolumeCommand) (answer : Result T VolumeFault) : Type 0 where
  pub same : only_settles (volume_reply answer) (Asks (OfVolume command)) ≡ true → (t u : Tape) → IsTold view x t → IsTold view y u → IsFinished t u
  pub written : (t u : Tape) → IsTold view x t → IsTold view y u → IsWritten (volume_reply answer) (Asks (OfVolume command)) (view x.records).record_count t u
  pub writes : only_settles (volume_reply answer) (Asks (OfVolume command)) ≡ true → (t : Tape) → IsTold view x t → has_mark (view x.records).record_count (volume_of t) ≡ false
      → GoesOnBy (IsSettleWrite (view x.records).record_count (redo_of t)) (view x.records).transferred (view y.records).transferred
  pub reads : only_reads (Asks (OfVolume command)) ≡ true → (t u : Tape) → IsTold view x t → IsTold view y u → has_mark (view x.records).record_count (volume_of t) ≡ false
      → SettlesAs (settled t) u
  pub commits : volume_reply answer ≡ reply.Ok → only_reads (Asks (OfVolume command)) ≡ false → (t : Tape) → IsTold view x t → has_mark (view x.records).record_count (volume_of t) ≡ false
      → AddsFilesAndCommit (view x.records).record_count command t (view x.records).transferred (view y.records).transferred

pub one_tape : (tape : Option Tape) (t u : Tape) → tape ≡ Some t → tape ≡ Some u → t ≡ u
one_tape tape t u one two = let both : Some t ≡ Some u = sym one ∙ two in cc

faults_differ : (command : VolumeCommand) (e : Trouble) → only_settles (fault_of e) (Asks (OfVolume command)) ≡ false
faults_differ command trouble.Frame = refl
faults_differ command trouble.Medium = refl

no_fault_written : (command : VolumeCommand) (e : Trouble) (n : ℕ) (t u : Tape) → IsWrittenHere (fault_of e) command n t u
no_fault_written command trouble.Frame n t u = tt
no_fault_written command trouble.Medium n t u = tt

fault_is_not_ok : (e : Trouble) → fault_of e ≡ reply.Ok → (A : Type 0) → A
fault_is_not_ok trouble.Frame ok A = cc
fault_is_not_ok trouble.Medium ok A = cc

no_fault_first : (command : VolumeCommand) (e : Trouble) (n : ℕ) (t u : Tape) → IsWritten (fault_of e) (Asks (OfVolume command)) n t u
no_fault_first command trouble.Frame n t u = tt
no_fault_first command trouble.Medium n t u = tt

-- what is told of the tape after settling holds of that tape
alike_after : {S : Type 0} (v w : RecordsView S) (t u : Tape) → SettlesOnly v w t → w.tape ≡ Some u → SettlesAs (settled t) u
alike_after v w t u only now = subst (SettlesAs (settled t)) (one_tape w.tape only.after.0 u only.after.1 now) only.after.2

-- ---- a command that only reads

-- it makes the same tape
reads_same : (command : VolumeCommand) → only_reads (Asks (OfVolume command)) ≡ true → (n : ℕ) (v : Option Volume) (t : Tape) → IsWrittenOn n command v t t
reads_same Dir on n None t = refl
reads_same Dir on n (Some v) t = refl
reads_same Label on n None t = refl
reads_same Label on n (Some v) t = refl
reads_same (Fetch name) on n None t = refl
reads_same (Fetch name) on n (Some v) t = refl
reads_same _ on n v t = cc

module _ {R S T : Type 0} (view : R → RecordsView S) (x y : VolumeView R) (command : VolumeCommand) (reads : only_reads (Asks (OfVolume command)) ≡ true) where
  pub left_read : (answer : Result T VolumeFault) → ((t : Tape) → (view x.records).tape ≡ Some t → IsSettledAs t (view y.records).tape (store_answer answer)) → WritesBySettling view x y answer → OnlySettles view x y → TapeLeft view x y command answer
  left_read (Ok a) settles writes only = record {
    reads = λ on t u told now. alike_after (view x.records) (view y.records) t u (only t told) now;
    same = λ on t u told now rests. one_tape (view y.records).tape u (settled t) now (settles t told) ∙ rests;
    written = λ t u told now rests.
        subst (λ (z : Tape). IsWrittenOn (view x.records).record_count command (volume_of t) t z) (sym (one_tape (view y.records).tape u (settled t) now (settles t told) ∙ rests))
        (reads_same command reads (view x.records).record_count (volume_of t) t);
    writes = λ on t told. writes t told;
    commits = λ ok off. let clash : true ≡ false = sym reads ∙ off in cc;
  }
  left_read (Err (Refused why)) settles writes only = record {
    reads = λ on t u told now. alike_after (view x.records) (view y.records) t u (only t told) now;
    same = λ on t u told now rests. one_tape (view y.records).tape u (settled t) now (settles t told) ∙ rests;
    written = λ t u told now rests. tt;
    writes = λ on t told. writes t told;
    commits = λ ok. cc;
  }
  left_read (Err (Troubled e)) settles writes only = record {
    reads = λ on t u told now. alike_after (view x.records) (view y.records) t u (only t told) now;
    same = λ on. let clash : true ≡ false = sym on ∙ faults_differ command e in cc;
    written = λ t u told now rests. no_fault_written command e (view x.records).record_count t u;
    writes = λ on. let clash : true ≡ false = sym on ∙ faults_differ command e in cc;
    commits = λ ok. fault_is_not_ok e ok _;
  }

-- ---- one that changes the volume

-- a refusal leaves a settled tape as it is
refused_rests : (command : VolumeCommand) (why : Refusal) (t : Tape) → IsSettled t → refused_tape command why t ≡ t
refused_rests (Format label slots) refusal.NoRoom t rests = refl
refused_rests _ _ t rests = rests

module _ {R S T : Type 0} (view : R → RecordsView S) (x y : VolumeView R) (command : VolumeCommand) (changes : only_reads (Asks (OfVolume command)) ≡ false) where
  pub left_altered : (answer : Result T VolumeFault) → Writes command view x y answer → WritesByCommit command view x y answer → TapeLeft view x y command answer
  left_altered (Ok a) written writes = record {
    reads = λ on. let clash : true ≡ false = sym on ∙ changes in cc;
    same = λ on. let clash : true ≡ false = sym on ∙ changes in cc;
    written = λ t u told now rests. subst (λ (z : Tape). IsWrittenOn (view x.records).record_count command (volume_of t) z u) rests (written t u told now);
    writes = λ on. let clash : true ≡ false = sym on ∙ changes in cc;
    commits = λ ok off t told. record {
      goes_on = λ list was.
          let all = (writes t told).goes_on list was in
          (all.0, all.1, all.2, all.3, λ on. let clash : false ≡ true = on in cc, all.5);
    };
  }
  left_altered (Err (Refused why)) written writes = record {
    reads = λ on. let clash : true ≡ false = sym on ∙ changes in cc;
    same = λ on t u told now rests. written t u told now ∙ refused_rests command why t rests;
    written = λ t u told now rests. tt;
    writes = λ on t told. writes t told;
    commits = λ ok. cc;
  }
  left_altered (Err (Troubled e)) written writes = record {
    reads = λ on. let clash : true ≡ false = sym on ∙ changes in cc;
    same = λ on. let clash : true ≡ false = sym on ∙ faults_differ command e in cc;
    written = λ t u told now rests. no_fault_written command e (view x.records).record_count t u;
    writes = λ on. let clash : true ≡ false = sym on ∙ faults_differ command e in cc;
    commits = λ ok. fault_is_not_ok e ok _;
  }

-- ---- from before a packing is finished

-- writes of records that have Q, and then of records that have P and so Q
writes_joined : (P Q : ℕ → Type 0) → ((k : ℕ) → P k → Q k) → (first next : List Transfer) → WritesOnly Q first → WritesOnly P next → WritesOnly Q (first ++ next)
writes_joined P Q more [] [] a b = tt
writes_joined P Q more [] (y ∷ ys) a b =
    (λ on. let c = b.0 on in record { count = c.count; whole = c.whole; each = λ k lt. more _ (c.each k lt) }, writes_joined P Q more [] ys tt b.1)
writes_joined P Q more (x ∷ xs) ys a b = (a.0, writes_joined P Q more xs ys a.1 b)

-- first writes of settling the tape t, and then what is added to the settled one
added_after : (n : ℕ) (command : VolumeCommand) (t x : Tape) → x ≡ settled t → (old mid new : List Transfer → Type 0) → GoesOnBy (IsSettleWrite n (redo_of t)) old mid → AddsFilesAndCommit n command x mid new
    → AddsFilesAndCommit n command t old new
added_after n command t x plain old mid new settles adds = record {
  goes_on = λ list was.
      let first = settles.goes_on list was in
      let next = adds.goes_on (list ++ first.0) first.1 in
      let joined : ((list ++ first.0) ++ (next.0 ++ next.1)) ≡ (list ++ ((first.0 ++ next.0) ++ next.1)) = append_assoc list first.0 (next.0 ++ next.1) ∙ ap (λ (ts : List Transfer). list ++ ts) (sym (append_assoc first.0 next.0 next.1)) in (
        first.0 ++ next.0,
        next.1,
        subst new joined next.2,
        writes_joined _ _ nothing first.0 next.0 first.2 next.3,
        λ on. let clash : false ≡ true = on in cc,
        subst (λ (u : Tape). IsFilesAndCommit n command (volume_in u) u next.1) (ap settled plain ∙ settled_twice t) next.5,
      );
}
  where
    nothing : (k : ℕ) → IsSettleWrite n (redo_of x) k → IsSettleWrite n (redo_of t) k
    nothing k is = absurd (subst (λ (cs : Changes). IsSettleWrite n cs k) (settled_has_none x (ap settled plain ∙ settled_twice t ∙ sym plain)) is)

-- the tape t as f has it finished
module _ {R S T : Type 0} (view : R → RecordsView S) (m f n : VolumeView R) (command : VolumeCommand) (size : (view f.records).record_count ≡ (view m.records).record_count)
    (long : (t : Tape) → IsTold view m t → length t ≡ (view m.records).record_count)
    (finishes : (t : Tape) → IsTold view m t → (u : Tape) × IsTold view f u × IsFinished t u)
    (settles : (t : Tape) → IsTold view m t → has_mark (view m.records).record_count (volume_of t) ≡ false
    → GoesOnBy (IsSettleWrite (view m.records).record_count (redo_of t)) (view m.records).transferred (view f.records).transferred) where
  pub left_first : (answer : Result T VolumeFault) → TapeLeft view f n command answer → TapeLeftFirst view m n command answer
  left_first answer left = record {
    same = λ on t u told now.
        let x = finishes t told in
        subst (IsFinished t) (sym (left.same on x.0 u x.1 now x.2.is_settled)) x.2;
    written = λ t u told now.
        let x = finishes t told in
        by answer t u x.0 x.2 (subst (λ (k : ℕ). IsWrittenHere (volume_reply answer) command k x.0 u) size (left.written x.0 u x.1 now x.2.is_settled));
    writes = λ on t told off.
        let x = finishes t told in
        then_more _ (view m.records).transferred (view f.records).transferred (view n.records).transferred (settles t told off)
        (wider _ _ (view f.records).transferred (view n.records).transferred (λ k is. absurd (subst (λ (cs : Changes). IsSettleWrite (view f.records).record_count cs k) (settled_has_none x.0 x.2.is_settled) is))
        (left.writes on x.0 x.1));
    reads = λ on t u told now off.
        let x = finishes t told in
        let plain : x.0 ≡ settled t = x.2.plain (ap (λ (k : ℕ). has_mark k (volume_of t)) (long t told) ∙ off) in
        subst (λ (z : Tape). SettlesAs z u) (ap settled plain ∙ settled_twice t) (left.reads on x.0 u x.1 now);
    commits = λ ok changes t told off.
        let x = finishes t told in
        let plain : x.0 ≡ settled t = x.2.plain (ap (λ (k : ℕ). has_mark k (volume_of t)) (long t told) ∙ off) in
        let next = subst (λ (k : ℕ). AddsFilesAndCommit k command x.0 (view f.records).transferred (view n.records).transferred) size (left.commits ok changes x.0 x.1) in
        (added_after (view m.records).record_count command t x.0 plain _ _ _ (settles t told off) next);
  }
    where
      by : (answer : Result T VolumeFault) (t u x : Tape) → IsFinished t x → IsWrittenHere (volume_reply answer) command (view m.records).record_count x u → IsWritten (volume_reply answer) (Asks (OfVolume command)) (view m.records).record_count t u
      by (Ok a) t u x first here = (x, first, here)
      by (Err (Refused why)) t u x first here = tt
      by (Err (Troubled e)) t u x first here = no_fault_first command e (view m.records).record_count t u

-- the store failed
pub left_failed : {R S : Type 0} (T : Type 0) (view : R → RecordsView S) (m n : VolumeView R) (command : VolumeCommand) (e : Trouble)
    → ((t : Tape) → IsTold view m t → has_mark (view m.records).record_count (volume_of t) ≡ false → SettlesOnly (view m.records) (view n.records) t) → TapeLeftFirst {T = T} view m n command (Err (Troubled e))
left_failed T view m n command e settles = record {
  reads = λ on t u told now off. alike_after (view m.records) (view n.records) t u (settles t told off) now;
  same = λ on. let clash : true ≡ false = sym on ∙ faults_differ command e in cc;
  written = λ t u told now. no_fault_first command e (view m.records).record_count t u;
  writes = λ on. let clash : true ≡ false = sym on ∙ faults_differ command e in cc;
  commits = λ ok. fault_is_not_ok e ok _;
}

-- ---- a directory that is kept

-- is that of a tape on which nothing is left to do
pub plain_kept : {R S : Type 0} (view : R → RecordsView S) (y : VolumeView R) → IsOpen view y → IsUnmarked view y → is_some y.kept ≡ true → (u : Tape) → IsTold view y u → IsPlain (view y.records).record_count u
plain_kept view y opens unmarked on u told = record { is_settled = by y.kept on (opens.known u told); clear = unmarked u told on }
  where
    by : (kept : Option HeaderParts) → is_some kept ≡ true → IfSome kept (λ header. IsDirectoryOf u header y.slots) → IsSettled u
    by (Some header) on known = known.settled
    by None on known = cc
