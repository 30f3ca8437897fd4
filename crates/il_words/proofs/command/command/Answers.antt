use Rattle.std.proofs.Common.{rules, ◌≡◌, codes, ap₂, ◌∙◌}
use Rattle.clap.specs.Words.{rule_of, with_rule}
use Rattle.il_words.specs.Simple.{il_app, flag_rule, valued_rule}
use Rattle.il_words.proofs.command.command.Goals as goal

pub returns : goal.returns
unfolding il_app
returns c =
    let new_is : rule_of c.flag.result ≡ flag_rule (codes "new") = search rules in
    let disc_is : rule_of c.flag-2.result ≡ flag_rule (codes "new-disc") = search rules in
    let quiet_is : rule_of c.flag-3.result ≡ flag_rule (codes "quiet") = search rules in
    let guest_is : rule_of c.flag-4.result ≡ flag_rule (codes "guest") = search rules in
    let lose_is : rule_of c.valued.result ≡ valued_rule (codes "lose") = search rules in
    let alter_is : rule_of c.valued-2.result ≡ valued_rule (codes "alter") = search rules in
    let generate_is : rule_of c.valued-3.result ≡ valued_rule (codes "generate") = search rules in
    let one = c.in_ok-arg.ensures.shape c.flag.ensures.local ∙ ap₂ with_rule c.bare.ensures new_is in
    let two = c.in_ok-arg-2.ensures.shape c.flag-2.ensures.local ∙ ap₂ with_rule one disc_is in
    let three = c.in_ok-arg-3.ensures.shape c.flag-3.ensures.local ∙ ap₂ with_rule two quiet_is in
    let four = c.in_ok-arg-4.ensures.shape c.flag-4.ensures.local ∙ ap₂ with_rule three guest_is in
    let five = c.in_ok-arg-5.ensures.shape c.valued.ensures.local ∙ ap₂ with_rule four lose_is in
    let six = c.in_ok-arg-6.ensures.shape c.valued-2.ensures.local ∙ ap₂ with_rule five alter_is in
    let seven = c.in_ok-arg-7.ensures.shape c.valued-3.ensures.local ∙ ap₂ with_rule six generate_is in
    c.in_ok-command.ensures.shape c.image.ensures.local ∙ ap₂ with_rule seven c.image.ensures.rule
