use Rattle.std.proofs.Common.{[], ◌≡◌, refl, ap, ◌∙◌, rules}
use Rattle.std.specs.Prelude.{Err}
use Rattle.lif_model.specs.Apply.{Label}
use Rattle.lif_model.specs.Header.{HeaderParts}
use Rattle.lif_volume.specs.Seen.{seen}
use Rattle.lif_volume.proofs.Mounting.{behind, kept_is_of, answers_label, answers_fault}
use Rattle.lif_volume.proofs.Joining.{not_lif_only}
use Rattle.lif_volume.proofs.volume.Volume.label.Goals as goal

pub returns-in_err-header-clause-did : goal.returns-in_err-header-clause-did
returns-in_err-header-clause-did g c =
    let is : c.from_residual.result ≡ Err c.in_err-header.field-0.0 = search rules in
    let e = c.in_err-header.ensures in
    record {
      consults = search rules;
      only = rw is (not_lif_only [] c.in_err-header.field-0.0 e.only);
      answers = λ t u told now. rw is (answers_fault (g.R.Records.view c.args.self.now.records).record_count t u _ Label c.in_err-header.field-0.0 refl now e.only (e.exactly t told) (e.consults.settles t told));
      settling = e.settling;
      stays = search rules;
      transfers = search rules;
    }

pub returns-clause-did : goal.returns-clause-did
returns-clause-did g c =
    let e = c.in_ok-header.ensures in
    record {
      consults = search rules;
      only = tt;
      answers = λ t u told now. answers_label (g.R.Records.view c.args.self.now.records).record_count t u (behind t u _ now (e.consults.settles t told)) (e.exactly t told);
      settling = e.settling;
      stays = e.stays;
      transfers = e.transfers;
    }

pub returns-clause-label : goal.returns-clause-label
returns-clause-label g c = λ t told.
    let e = c.in_ok-header.ensures in
    let known = e.open.known _ (e.consults.settles t told) in
    let is = kept_is_of (seen c.mount.new.self) c.in_ok-header.header _ e.kept known in
    c.label.ensures ∙ ap (λ (h : HeaderParts). h.label) is.directory.header

pub returns-in_err-header-clause-exactly : goal.returns-in_err-header-clause-exactly
returns-in_err-header-clause-exactly g c t told =
    let is : c.from_residual.result ≡ Err c.in_err-header.field-0.0 = search rules in
    rw is (c.in_err-header.ensures.exactly t told)
