use Rattle.std.proofs.Common.{refl}
use Rattle.il_ring.proofs.ControlledSends.{back_controlled, lent_sent}
use Rattle.il_ring.proofs.SendLaws.{back_sent, counts_sent, data_sent, handed_sent, kept_sent, plain_sent, room_sent, sent_round, start_sent}
use Rattle.il_ring.proofs.HandedOver.{over_sent}
use Rattle.il_ring.proofs.ring.Ring.send.Goals as goal

pub round-requires : goal.round-requires
round-requires g c = record { room = room_sent _ _ _ _ c.end_lending.ensures c.sourced.ensures c.requires.leads c.requires.room }

pub returns-clause-round : goal.returns-clause-round
returns-clause-round g c = λ keeps. sent_round g.M.Medium.view _ _ _ _ _ _ c.round.ensures c.end_lending.ensures c.sourced.ensures keeps

pub returns-clause-counts : goal.returns-clause-counts
returns-clause-counts g c = λ keeps. counts_sent g.M.Medium.view _ _ _ _ _ _ (sent_round g.M.Medium.view _ _ _ _ _ _ c.round.ensures c.end_lending.ensures c.sourced.ensures keeps) refl

pub returns-clause-plain : goal.returns-clause-plain
returns-clause-plain g c = λ keeps. plain_sent g.M.Medium.view _ _ _ _ _ _ (sent_round g.M.Medium.view _ _ _ _ _ _ c.round.ensures c.end_lending.ensures c.sourced.ensures keeps) refl

pub returns-clause-data : goal.returns-clause-data
returns-clause-data g c = λ keeps. data_sent g.M.Medium.view _ _ _ _ _ _ (sent_round g.M.Medium.view _ _ _ _ _ _ c.round.ensures c.end_lending.ensures c.sourced.ensures keeps) refl

pub returns-clause-start : goal.returns-clause-start
returns-clause-start g c = λ keeps. start_sent g.M.Medium.view _ _ _ _ _ _ (sent_round g.M.Medium.view _ _ _ _ _ _ c.round.ensures c.end_lending.ensures c.sourced.ensures keeps) refl

pub returns-clause-kept : goal.returns-clause-kept
returns-clause-kept g c = λ keeps. kept_sent g.M.Medium.view _ _ _ _ _ (sent_round g.M.Medium.view _ _ _ _ _ _ c.round.ensures c.end_lending.ensures c.sourced.ensures keeps)

pub returns-clause-handed : goal.returns-clause-handed
returns-clause-handed g c = λ under over. handed_sent g.M.Medium.view _ _ _ _ _ _ c.round.ensures c.end_lending.ensures c.sourced.ensures under

pub returns-clause-over : goal.returns-clause-over
returns-clause-over g c = λ ring under is over. over_sent g.M.Medium.view _ _ _ _ is (λ over. handed_sent g.M.Medium.view _ _ _ _ _ _ c.round.ensures c.end_lending.ensures c.sourced.ensures under) ring under over

pub returns-clause-taken_back : goal.returns-clause-taken_back
returns-clause-taken_back g c = λ lead. back_sent g.M.Medium.view _ _ _ _ _ _ c.round.ensures c.end_lending.ensures c.sourced.ensures c.requires.leads lead

pub returns-clause-lent : goal.returns-clause-lent
returns-clause-lent g c = λ ring under over. lent_sent g.M.Medium.view _ _ _ _ _ _ c.round.ensures c.end_lending.ensures c.sourced.ensures ring under

pub returns-clause-back : goal.returns-clause-back
returns-clause-back g c = λ controlled. back_controlled g.M.Medium.view _ _ _ _ _ _ c.round.ensures c.end_lending.ensures c.sourced.ensures c.requires.leads controlled
