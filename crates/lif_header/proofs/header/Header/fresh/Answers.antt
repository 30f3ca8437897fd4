use Rattle.std.proofs.Common.{◌∙◌, ◌++◌, length, [], ◌∷◌, replicate, refl, ap, arith}
use Rattle.lif_model.specs.Made.{in_four}
use Rattle.lif_header.proofs.Fresh.{fresh_is, one_more, four_bytes}
use Rattle.lif_header.proofs.header.Header.fresh.Goals as goal

pub returns : goal.returns
returns c =
    let one = one_more (replicate 36 0) c.put.new.bytes [] c.to_be_bytes.result 0 2 (omega (arith, ap length c.to_be_bytes.ensures)) (omega arith) refl c.put.ensures in
    let two = one_more c.put.new.bytes c.put-2.new.bytes _ c.args.label.now 2 8 (omega arith) (omega arith) one c.put-2.ensures in
    let three = one_more c.put-2.new.bytes c.put-3.new.bytes _ c.to_be_bytes-2.result 8 12 (omega (arith, ap length c.to_be_bytes-2.ensures)) (omega arith) two c.put-3.ensures in
    let four = one_more c.put-3.new.bytes c.put-4.new.bytes _ (0x10 ∷ 0 ∷ 0 ∷ 0 ∷ []) 12 16 (omega arith) (omega arith) three c.put-4.ensures in
    let five = one_more c.put-4.new.bytes c.put-5.new.bytes _ c.to_be_bytes-3.result 16 20 (omega (arith, ap length c.to_be_bytes-3.ensures)) (omega arith) four c.put-5.ensures in
    let six = one_more c.put-5.new.bytes c.put-6.new.bytes _ (0 ∷ 1 ∷ 0 ∷ 0 ∷ []) 20 24 (omega arith) (omega arith) five c.put-6.ensures in
    let seven = one_more c.put-6.new.bytes c.put-7.new.bytes _ c.to_be_bytes-4.result 24 28 (omega (arith, ap length c.to_be_bytes-4.ensures)) (omega arith) six c.put-7.ensures in
    let eight = one_more c.put-7.new.bytes c.put-8.new.bytes _ c.to_be_bytes-5.result 28 32 (omega (arith, ap length c.to_be_bytes-5.ensures)) (omega arith) seven c.put-8.ensures in
    let nine = one_more c.put-8.new.bytes c.put-9.new.bytes _ c.to_be_bytes-6.result 32 36 (omega (arith, ap length c.to_be_bytes-6.ensures)) (omega arith) eight c.put-9.ensures in
    let tracks = c.to_be_bytes-4.ensures ∙ four_bytes c.of-medium.result.tracks (omega arith) in
    let surfaces = c.to_be_bytes-5.ensures ∙ four_bytes c.of-medium.result.surfaces (omega arith) in
    let records = c.to_be_bytes-6.ensures ∙ four_bytes c.of-medium.result.records (omega arith) in
    c.record_of.ensures
    ∙ fresh_is c.put-9.new.bytes c.to_be_bytes.result c.args.label.now c.to_be_bytes-2.result c.to_be_bytes-3.result c.to_be_bytes-4.result c.to_be_bytes-5.result c.to_be_bytes-6.result
    c.args.size c.args.length nine (omega arith) c.to_be_bytes.ensures c.to_be_bytes-2.ensures (c.to_be_bytes-3.ensures ∙ four_bytes c.from.result (omega arith) ∙ ap in_four c.from.ensures)
    ((λ i. tracks i ++ (surfaces i ++ records i)) ∙ c.of-medium.ensures)
