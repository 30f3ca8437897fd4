use Rattle.std.proofs.Common.{[], ◌≡◌, true, false, ◌∙◌, ap, is_some, sym, subst}
use Rattle.std.specs.Prelude.{Ok}
use Rattle.std.specs.Option.{option_map}
use Rattle.host_model.specs.Runs.{Summary}
use Rattle.il_host.specs.Run.{Answers, item_asked}
use Rattle.il_host.proofs.generating.answer_line.Goals as goal

pub unreachable-requires : goal.unreachable-requires
unreachable-requires g c =
    let clash : false ≡ true = sym (ap (λ asked. is_some (option_map (λ a. item_asked a c.read_text.new.payload []) asked)) c.in_default.is)
    ∙ (ap is_some (c.read_text.ensures.item []) ∙ c.requires.item) in cc

pub returns : goal.returns
returns g c = record {
  item = item_asked c.in-Some.asked c.read_text.new.payload [];
  asks = sym (c.read_text.ensures.item []) ∙ ap (option_map (λ a. item_asked a c.read_text.new.payload [])) c.in-Some.is;
  answers = λ written. subst (λ bytes. Answers {E = Unit {0}} (item_asked c.in-Some.asked bytes []) c.reply_to.result Summary (g.P.Performer.view c.args.host.now) (g.P.Performer.view c.reply_to.new.host) written written (Ok tt)) c.bytes.ensures.bytes
      (c.reply_to.ensures written);
}
