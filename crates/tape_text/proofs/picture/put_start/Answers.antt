use Rattle.std.proofs.Common.{◌+◌, ◌*◌, ◌/◌, ◌++◌, codes, decimal, refl}
use Rattle.tape_text.specs.Picture.{svg_start}
use Rattle.tape_text.proofs.Sheets.{append_next}
use Rattle.tape_text.proofs.picture.put_start.Goals as goal

pub returns-clause-text : goal.returns-clause-text
unfolding svg_start
returns-clause-text c =
    let one = codes "<svg xmlns=\"http://www.w3.org/2000/svg\" width=\"640\" height=\"" in
    let height = decimal (10 * ((c.args.records + 63) / 64)) in
    let last = codes "\">\n" in
    append_next c.args.page.now c.put_number.new.self c.put-2.new.self (one ++ height) last last
    (append_next c.args.page.now c.put.new.self c.put_number.new.self one height height c.put.ensures c.put_number.ensures.text refl)
    c.put-2.ensures refl
