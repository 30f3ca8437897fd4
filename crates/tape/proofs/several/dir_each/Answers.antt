use Rattle.std.proofs.Common.{◌∙◌, arith, sym}
use Rattle.tape_drives.proofs.Lent.{lends_same, uses_fewer, uses_none, uses_then}
use Rattle.tape.specs.Images.{medium_sight, sight}
use Rattle.tape.proofs.Chains.{ends_here, goes_on, ends_after, so_far_on, so_far_start}
use Rattle.tape.proofs.Lends.{image_on}
use Rattle.tape.proofs.several.dir_each.Goals as goal

pub images-init : goal.images-init
images-init g c = record {
  listed = so_far_start _ _ _ _ _;
  lent = uses_none (g.D.Drives.lent c.args.drives.now) c.requires.back;
}

pub returns-then-ends_job-clause-listed : goal.returns-then-ends_job-clause-listed
returns-then-ends_job-clause-listed g c =
    let start = g.D.Drives.lent c.args.drives.now in
    let was = g.D.Drives.lent c.images.drives in
    let now = g.D.Drives.lent c.dir_one-ending.new.drives in
    let media = medium_sight g.M.Medium.view g.M.Medium.refuses in
    ends_here (sight g.M.Medium.view g.M.Medium.refuses start now) c.args.csv c.args.all c.args.names.now c.images.name-index _ c.images-test.true c.dir_one-ending.result.0 _ _ _ c.images.is_done
    (so_far_on media start was now c.dir_one-ending.ensures.drives.goes_on _ _ _ _ _ _ _ c.images.invariant.listed)
    (image_on media was now start now (lends_same now) _ _ _ _ _ _ _ c.dir_one-ending.ensures.listed)
    c.status.result c.status.ensures (sym c.ends_job.ensures ∙ c.if-ends_job.true)

pub returns-then-ends_job-clause-drives : goal.returns-then-ends_job-clause-drives
returns-then-ends_job-clause-drives g c =
    uses_fewer _ _ (omega (arith, c.images-test.true)) _ _ (uses_then _ 1 _ _ _ c.images.invariant.lent c.dir_one-ending.ensures.drives)

pub images-preserved : goal.images-preserved
images-preserved g c =
    let start = g.D.Drives.lent c.args.drives.now in
    let was = g.D.Drives.lent c.images.drives in
    let now = g.D.Drives.lent c.dir_one-ending.new.drives in
    let media = medium_sight g.M.Medium.view g.M.Medium.refuses in
    record {
      listed = goes_on (sight g.M.Medium.view g.M.Medium.refuses start now) c.args.csv c.args.all c.args.names.now c.images.name-index _ c.images-test.true c.dir_one-ending.result.0 _ _ _ c.images.is_done
          (so_far_on media start was now c.dir_one-ending.ensures.drives.goes_on _ _ _ _ _ _ _ c.images.invariant.listed)
          (image_on media was now start now (lends_same now) _ _ _ _ _ _ _ c.dir_one-ending.ensures.listed)
          c.is_done_too-is_done.result c.is_done_too-is_done.ensures (sym c.ends_job.ensures ∙ c.if-ends_job.false);
      lent = uses_then _ 1 _ _ _ c.images.invariant.lent c.dir_one-ending.ensures.drives;
    }

pub returns-clause-listed : goal.returns-clause-listed
returns-clause-listed g c =
    ends_after (sight g.M.Medium.view g.M.Medium.refuses (g.D.Drives.lent c.args.drives.now) (g.D.Drives.lent c.images.drives)) c.args.csv c.args.all c.args.names.now c.images.name-index c.images.auto.name-index-end c.images-test.false _ _ c.images.is_done c.status_of_several.result c.status_of_several.ensures c.images.invariant.listed

pub returns-clause-drives : goal.returns-clause-drives
returns-clause-drives g c = uses_fewer _ _ c.images.auto.name-index-end _ _ c.images.invariant.lent
