use Rattle.il_host.proofs.GeneratedRuns.{put_alone, line_stores, line_purges, line_fetches, state_stays}
use Rattle.il_host.proofs.generating.put_next_line.Goals as goal

pub returns-then-chosen-lt2-clause-text : goal.returns-then-chosen-lt2-clause-text
returns-then-chosen-lt2-clause-text c =
    let a = c.next-name.ensures in
    let b = c.next-chosen.ensures in
    let is = line_stores _ _ _ _ _ a.state b.state a.number b.number _ _ c.next.ensures.state c.next.ensures.number c.if-chosen-lt2.true in
    put_alone _ _ _ _ c.requires.empty c.put_store_line.ensures.text is.0

pub returns-then-chosen-lt2-clause-draws : goal.returns-then-chosen-lt2-clause-draws
returns-then-chosen-lt2-clause-draws c =
    let a = c.next-name.ensures in
    let b = c.next-chosen.ensures in
    (line_stores _ _ _ _ _ a.state b.state a.number b.number _ _ c.next.ensures.state c.next.ensures.number c.if-chosen-lt2.true).1

pub returns-then-chosen-eq2-clause-text : goal.returns-then-chosen-eq2-clause-text
returns-then-chosen-eq2-clause-text c =
    let a = c.next-name.ensures in
    let b = c.next-chosen.ensures in
    put_alone _ _ _ _ c.requires.empty c.put_name_line.ensures.text (line_purges _ _ _ _ _ a.state b.state a.number b.number c.if-chosen-lt2.false c.if-chosen-eq2.true)

pub returns-then-chosen-eq2-clause-draws : goal.returns-then-chosen-eq2-clause-draws
returns-then-chosen-eq2-clause-draws c =
    let a = c.next-name.ensures in
    let b = c.next-chosen.ensures in
    state_stays _ _ _ _ _ a.state b.state a.number b.number c.if-chosen-lt2.false

pub returns-else-chosen-eq2-clause-text : goal.returns-else-chosen-eq2-clause-text
returns-else-chosen-eq2-clause-text c =
    let a = c.next-name.ensures in
    let b = c.next-chosen.ensures in
    put_alone _ _ _ _ c.requires.empty c.put_name_line-else-chosen-eq2.ensures.text (line_fetches _ _ _ _ _ a.state b.state a.number b.number c.if-chosen-lt2.false c.if-chosen-eq2.false)

pub returns-else-chosen-eq2-clause-draws : goal.returns-else-chosen-eq2-clause-draws
returns-else-chosen-eq2-clause-draws c =
    let a = c.next-name.ensures in
    let b = c.next-chosen.ensures in
    state_stays _ _ _ _ _ a.state b.state a.number b.number c.if-chosen-lt2.false
