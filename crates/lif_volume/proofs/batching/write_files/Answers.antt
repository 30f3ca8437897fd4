use Rattle.std.proofs.Common.{◌≡◌, ◌++◌, ◌∷◌, [], ◌∙◌, ℕ, suc, List, append_assoc, get_or, map, take, drop, sym, ap, subst, arith, rules}
use Rattle.std.specs.Prelude.{Ok, Err}
use Rattle.std.proofs.lemmas.List.{length-map, get_or-map}
use Rattle.lif_model.specs.Writing.{NewFile}
use Rattle.il_ports.specs.declared.records.Trouble.{Trouble}
use Rattle.lif_plan.specs.declared.batches.PlannedFile.{PlannedFile}
use Rattle.lif_plan.specs.Batches.{file_of}
use Rattle.lif_plan.proofs.BatchPlans.{parts_split, parts_next}
use Rattle.lif_volume.specs.Carrying.{records_filed, EndsWithin, WritesFiles}
use Rattle.lif_volume.proofs.Filing.{filed_more, files_none, files_one_more, files_fail}
use Rattle.lif_volume.proofs.batching.write_files.Goals as goal

-- what is read of a list of files where there is none
abbrev no_file : PlannedFile
no_file = record { slot = 0; start = 0; from = 0; length = 0 }

pub loop-k-init : goal.loop-k-init
loop-k-init g c = record { written = files_none (g.R.Records.view c.args.records.now) (g.met.R.Records.is_store c.args.records.now) _ c.requires.ready }

pub write_file-requires-clause-ready : goal.write_file-requires-clause-ready
write_file-requires-clause-ready g c =
    let f : PlannedFile → NewFile = file_of c.args.bytes.now in
    let files = c.args.files.now in
    let k : ℕ = c.loop-k.k in
    let goes = c.loop-k.invariant.written.goes_on.continues in
    record {
      valid = goes.valid;
      sound = goes.sound;
      left = omega (arith, c.requires.ready.left, goes.left, filed_more (map f (take k files)) (f (get_or files k no_file) ∷ map f (drop (suc k) files)), ap records_filed (parts_split f files k no_file c.loop-k-test.true));
    }

pub write_file-requires-clause-fits : goal.write_file-requires-clause-fits
write_file-requires-clause-fits g c =
    let f : PlannedFile → NewFile = file_of c.args.bytes.now in
    let files = c.args.files.now in
    let here : EndsWithin (g.R.Records.view c.args.records.now).record_count (get_or (map f files) c.loop-k.k (f no_file)) =
    c.requires.fits c.loop-k.k (f no_file) (omega (arith, c.loop-k-test.true, length-map files f)) in
    subst (λ (n : ℕ). EndsWithin n (f (get_or files c.loop-k.k no_file))) (sym c.loop-k.invariant.written.goes_on.continues.size)
    (subst (EndsWithin (g.R.Records.view c.args.records.now).record_count) (get_or-map f files c.loop-k.k no_file (f no_file) c.loop-k-test.true) here)

pub returns-in_err-write_file : goal.returns-in_err-write_file
returns-in_err-write_file g c =
    let is : c.from_residual.result ≡ Err c.in_err-write_file.field-0.0 = search rules in
    let f : PlannedFile → NewFile = file_of c.args.bytes.now in
    let files = c.args.files.now in
    let k : ℕ = c.loop-k.k in
    let next : NewFile = f (get_or files k no_file) in
    let v = g.R.Records.view c.args.records.now in
    let e : Trouble = c.in_err-write_file.field-0.0 in
    let fits = subst (EndsWithin v.record_count) (get_or-map f files k no_file (f no_file) c.loop-k-test.true) (c.requires.fits k (f no_file) (omega (arith, c.loop-k-test.true, length-map files f))) in
    rw is (subst (λ (fs : List NewFile). WritesFiles {T = Unit {0}} fs v (g.R.Records.view c.write_file.new.records) (Err e))
    (append_assoc (map f (take k files)) (next ∷ []) (map f (drop (suc k) files)) ∙ parts_split f files k no_file c.loop-k-test.true)
    (files_fail (map f (take k files) ++ next ∷ []) (map f (drop (suc k) files)) v (g.R.Records.view c.write_file.new.records) e
    (files_one_more v (g.met.R.Records.is_store c.args.records.now) (map f (take k files)) next (g.R.Records.view c.loop-k.records) (g.R.Records.view c.write_file.new.records) c.loop-k.invariant.written fits (Err e) c.in_err-write_file.ensures)))

pub loop-k-preserved : goal.loop-k-preserved
loop-k-preserved g c =
    let f : PlannedFile → NewFile = file_of c.args.bytes.now in
    let files = c.args.files.now in
    let k : ℕ = c.loop-k.k in
    let next : NewFile = f (get_or files k no_file) in
    let v = g.R.Records.view c.args.records.now in
    let fits = subst (EndsWithin v.record_count) (get_or-map f files k no_file (f no_file) c.loop-k-test.true) (c.requires.fits k (f no_file) (omega (arith, c.loop-k-test.true, length-map files f))) in
    record {
      written = subst (λ (fs : List NewFile). WritesFiles {T = Unit {0}} fs v (g.R.Records.view c.write_file.new.records) (Ok tt)) (parts_next f files k no_file c.loop-k-test.true)
          (files_one_more v (g.met.R.Records.is_store c.args.records.now) (map f (take k files)) next (g.R.Records.view c.loop-k.records) (g.R.Records.view c.write_file.new.records) c.loop-k.invariant.written fits (Ok tt) c.in_ok-write_file.ensures);
    }
