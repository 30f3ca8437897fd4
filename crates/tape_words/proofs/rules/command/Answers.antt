use Rattle.std.proofs.Common.{ap, ap₂, ◌∙◌}
use Rattle.clap.specs.Words.{App, with_subcommand}
use Rattle.tape_words.specs.Simple.{tape_app}
use Rattle.tape_words.proofs.rules.command.Goals as goal

pub returns : goal.returns
unfolding tape_app
returns c =
    let top = λ (a : App). a.top in
    let one = c.in_ok-subcommand.ensures.shape c.in_ok-job_command.ensures.local ∙ ap₂ with_subcommand c.in_ok-bare.ensures (ap top c.in_ok-job_command.ensures.app) in
    let two = c.in_ok-subcommand-2.ensures.shape c.in_ok-job_command-2.ensures.local ∙ ap₂ with_subcommand one (ap top c.in_ok-job_command-2.ensures.app) in
    let three = c.in_ok-subcommand-3.ensures.shape c.in_ok-job_command-3.ensures.local ∙ ap₂ with_subcommand two (ap top c.in_ok-job_command-3.ensures.app) in
    let four = c.in_ok-subcommand-4.ensures.shape c.in_ok-job_command-4.ensures.local ∙ ap₂ with_subcommand three (ap top c.in_ok-job_command-4.ensures.app) in
    let five = c.in_ok-subcommand-5.ensures.shape c.in_ok-job_command-5.ensures.local ∙ ap₂ with_subcommand four (ap top c.in_ok-job_command-5.ensures.app) in
    let six = c.in_ok-subcommand-6.ensures.shape c.in_ok-job_command-6.ensures.local ∙ ap₂ with_subcommand five (ap top c.in_ok-job_command-6.ensures.app) in
    let seven = c.in_ok-subcommand-7.ensures.shape c.in_ok-job_command-7.ensures.local ∙ ap₂ with_subcommand six (ap top c.in_ok-job_command-7.ensures.app) in
    let eight = c.in_ok-subcommand-8.ensures.shape c.in_ok-job_command-8.ensures.local ∙ ap₂ with_subcommand seven (ap top c.in_ok-job_command-8.ensures.app) in
    let nine = c.in_ok-subcommand-9.ensures.shape c.in_ok-job_command-9.ensures.local ∙ ap₂ with_subcommand eight (ap top c.in_ok-job_command-9.ensures.app) in
    let ten = c.in_ok-subcommand-10.ensures.shape c.in_ok-job_command-10.ensures.local ∙ ap₂ with_subcommand nine (ap top c.in_ok-job_command-10.ensures.app) in
    let eleven = c.in_ok-subcommand-11.ensures.shape c.in_ok-job_command-11.ensures.local ∙ ap₂ with_subcommand ten (ap top c.in_ok-job_command-11.ensures.app) in
    let twelve = c.in_ok-subcommand-12.ensures.shape c.in_ok-job_command-12.ensures.local ∙ ap₂ with_subcommand eleven (ap top c.in_ok-job_command-12.ensures.app) in
    let thirteen = c.in_ok-subcommand-13.ensures.shape c.in_ok-job_command-13.ensures.local ∙ ap₂ with_subcommand twelve (ap top c.in_ok-job_command-13.ensures.app) in
    let fourteen = c.in_ok-subcommand-14.ensures.shape c.in_ok-job_command-14.ensures.local ∙ ap₂ with_subcommand thirteen (ap top c.in_ok-job_command-14.ensures.app) in
    let fifteen = c.in_ok-subcommand-15.ensures.shape c.in_ok-job_command-15.ensures.local ∙ ap₂ with_subcommand fourteen (ap top c.in_ok-job_command-15.ensures.app) in
    let sixteen = c.in_ok-subcommand-16.ensures.shape c.in_ok-job_command-16.ensures.local ∙ ap₂ with_subcommand fifteen (ap top c.in_ok-job_command-16.ensures.app) in
    c.in_ok-command.ensures.shape c.in_ok-job_command-17.ensures.local ∙ ap₂ with_subcommand sixteen (ap top c.in_ok-job_command-17.ensures.app)
