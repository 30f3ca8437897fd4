use Rattle.std.proofs.Common.{None, Some, ap, arith}
use Rattle.std.specs.Prelude.{length}
use Rattle.il_script.specs.Sheet.{Sheet}
use Rattle.host_model.specs.Replies.{paper_line}
use Rattle.il_host.proofs.host.Host.paper.Goals as goal
use Rattle.il_host.proofs.HostVolumes.{ends_blank, ends_told, page_kept}
use Rattle.il_host.proofs.HostLoops.{paper_before, paper_short, paper_told}
use Rattle.il_host.proofs.Shorts.{boxed_short}

pub put_paper-requires : goal.put_paper-requires
put_paper-requires g c =
    let short = paper_short _ (Some (c.in-Some.kept.now, c.in-Some.count)) (boxed_short _ c.requires.valid.short)
    (paper_before _ _ c.args.self.now.volume c.begin.new.self _ _ c.requires.valid c.begin.ensures.begun g.met.M.Medium.is_medium c.args.self.now.page.text (Some (c.in-Some.kept.now, c.in-Some.count)) _ _ c.records.ensures c.ring.ensures c.in-Some.ensures) in
    omega (arith, short, ap length c.requires.blank, c.requires.valid.text)

pub answered-requires-clause-room : goal.answered-requires-clause-room
answered-requires-clause-room g c =
    let short = paper_short _ (Some (c.in-Some.kept.now, c.in-Some.count)) (boxed_short _ c.requires.valid.short)
    (paper_before _ _ c.args.self.now.volume c.begin.new.self _ _ c.requires.valid c.begin.ensures.begun g.met.M.Medium.is_medium c.args.self.now.page.text (Some (c.in-Some.kept.now, c.in-Some.count)) _ _ c.records.ensures c.ring.ensures c.in-Some.ensures) in
    omega (arith, short, ap length c.requires.blank, c.requires.valid.text, c.put_paper.ensures.size, ap (λ (p : Sheet). p.room) c.put_paper.ensures.text)

pub returns-in-Some : goal.returns-in-Some
returns-in-Some g c =
    ends_told (paper_line (Some (c.in-Some.kept.now, c.in-Some.count))) (page_kept c.args.self.now.page _) c.requires.blank c.put_paper.ensures.text c.answered.ensures.ended
    (paper_told _ _ c.args.self.now.volume c.begin.new.self _ _ c.requires.valid c.begin.ensures.begun g.met.M.Medium.is_medium _ (Some (c.in-Some.kept.now, c.in-Some.count)) _ _ c.records.ensures c.ring.ensures c.in-Some.ensures c.begin.ensures.open c.begin.ensures.kept)

pub returns-in-None : goal.returns-in-None
returns-in-None g c =
    ends_blank (page_kept c.args.self.now.page _) c.requires.blank c.answered-in-None.ensures.ended
    (paper_told _ _ c.args.self.now.volume c.begin.new.self _ _ c.requires.valid c.begin.ensures.begun g.met.M.Medium.is_medium _ None _ _ c.records.ensures c.ring.ensures c.in-None.ensures c.begin.ensures.open c.begin.ensures.kept)
