use Rattle.std.proofs.Common.{◌&&◌, ◌∙◌, nat_lt, rules, sym}
use Rattle.std.proofs.lemmas.Bool.{lt-ltb, le-ltb}
use Rattle.lif_dir.proofs.Bytes.{below_back}
use Rattle.lif_dir.proofs.entries.FileEntry.begins_below.Goals as goal

pub returns-then-self-gt0 : goal.returns-then-self-gt0
returns-then-self-gt0 c =
    (λ i. sym (lt-ltb 0 c.args.self.length c.if-self-gt0.true) i && nat_lt (c.from.ensures i) c.args.limit) ∙ sym (below_back c.args.self (search rules) c.args.limit)

pub returns-else-self-gt0 : goal.returns-else-self-gt0
returns-else-self-gt0 c =
    let none = le-ltb 0 c.args.self.length c.if-self-gt0.false in
    none ∙ (λ i. sym none i && nat_lt c.args.self.start c.args.limit) ∙ sym (below_back c.args.self (search rules) c.args.limit)
