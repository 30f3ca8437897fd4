use Rattle.il_script.specs.declared.reply.Code.TheVariants as code
use Rattle.il_host.proofs.HostVolumes.{ends_blank, page_kept}
use Rattle.il_host.proofs.TextPerforms.{nothing_done}
use Rattle.il_host.proofs.host.Host.refuse_text.Goals as goal

pub returns : goal.returns
returns g c =
    ends_blank (page_kept c.args.self.now.page _) c.requires.blank c.answered.ensures.ended
    (nothing_done _ _ c.args.self.now.volume c.begin.new.self _ _ c.requires.valid c.begin.ensures.begun _ code.NotText g.met.M.Medium.is_medium c.begin.ensures.open c.begin.ensures.kept)
