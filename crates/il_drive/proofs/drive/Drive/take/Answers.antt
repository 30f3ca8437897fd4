use Rattle.il_drive.proofs.Taking.{Takes-did, ete-did, unread-did, unwritten-did, lacks-did, lacked-did, size-did, tape-did, stops-did}
use Rattle.il_drive.proofs.drive.Drive.take.Goals as goal

pub returns-clause-takes : goal.returns-clause-takes
returns-clause-takes g c = Takes-did g.M.Medium.view
    (g.M.Medium.view c.args.self.now.medium).record_count c.args.self.now.state c.step-out.new.self.state c.args.frame c.step-out.result c.args.self.now.medium c.step-out.new.self.medium c.step-out.ensures.did (g.M.Medium.view c.step-out.new.self.medium).record_count c.step-out.ensures.before (rw (← c.self.view_is) c.self.invariant)

pub returns-clause-size : goal.returns-clause-size
returns-clause-size g c = size-did g.M.Medium.view
    (g.M.Medium.view c.args.self.now.medium).record_count c.args.self.now.state c.step-out.new.self.state c.args.frame c.step-out.result c.args.self.now.medium c.step-out.new.self.medium c.step-out.ensures.did

pub returns-clause-ete : goal.returns-clause-ete
returns-clause-ete g c = ete-did g.M.Medium.view
    (g.M.Medium.view c.args.self.now.medium).record_count c.args.self.now.state c.step-out.new.self.state c.args.frame c.step-out.result c.args.self.now.medium c.step-out.new.self.medium c.step-out.ensures.did

pub returns-clause-unread : goal.returns-clause-unread
returns-clause-unread g c = unread-did g.M.Medium.view
    (g.M.Medium.view c.args.self.now.medium).record_count c.args.self.now.state c.step-out.new.self.state c.args.frame c.step-out.result c.args.self.now.medium c.step-out.new.self.medium c.step-out.ensures.did

pub returns-clause-unwritten : goal.returns-clause-unwritten
returns-clause-unwritten g c = unwritten-did g.M.Medium.view
    (g.M.Medium.view c.args.self.now.medium).record_count c.args.self.now.state c.step-out.new.self.state c.args.frame c.step-out.result c.args.self.now.medium c.step-out.new.self.medium c.step-out.ensures.did

pub returns-clause-lacks : goal.returns-clause-lacks
returns-clause-lacks g c = lacks-did g.M.Medium.view
    (g.M.Medium.view c.args.self.now.medium).record_count c.args.self.now.state c.step-out.new.self.state c.args.frame c.step-out.result c.args.self.now.medium c.step-out.new.self.medium c.step-out.ensures.did

pub returns-clause-lacked : goal.returns-clause-lacked
returns-clause-lacked g c = lacked-did g.M.Medium.view
    (g.M.Medium.view c.args.self.now.medium).record_count c.args.self.now.state c.step-out.new.self.state c.args.frame c.step-out.result c.args.self.now.medium c.step-out.new.self.medium c.step-out.ensures.did

pub returns-clause-tape : goal.returns-clause-tape
returns-clause-tape g c = tape-did g.M.Medium.view
    (g.M.Medium.view c.args.self.now.medium).record_count c.args.self.now.state c.step-out.new.self.state c.args.frame c.step-out.result c.args.self.now.medium c.step-out.new.self.medium c.step-out.ensures.did

pub returns-clause-stops : goal.returns-clause-stops
returns-clause-stops g c x is = stops-did g.M.Medium.view
    (g.M.Medium.view c.args.self.now.medium).record_count c.args.self.now.state c.step-out.new.self.state c.args.frame c.step-out.result c.args.self.now.medium c.step-out.new.self.medium c.step-out.ensures.did x is (λ c₂ left. (g.met.M.Medium.is_medium c.args.self.now.medium).leaves_only x c₂ is left)
