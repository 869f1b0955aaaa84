use mathlib.Core.Path.{sym, ap, ◌∙◌}
use Rattle.std.specs.Result.{result_ok}
use Rattle.answer.specs.Said.{says}
use Rattle.profile.specs.Profile.{read_profile, widths}
use Rattle.capi_codec.specs.Codec.{profile_from}
use Rattle.capi_codec.proofs.Making.{accepted, unread}
use Rattle.capi_codec.proofs.profile_from.Goals as goal

pub returns-in-Err : goal.returns-in-Err
unfolding profile_from
returns-in-Err c =
    let e = sym c.stored.ensures ∙ c.ok_or.ensures.ok_part ∙ ap result_ok c.in_ok-made.was in
    sym (unread read_profile 30 10 widths c.args.xs.now c.in_ok-made.made e _ (sym c.read_profile.ensures ∙ ap says c.in-Err.is))

pub returns-in-Ok : goal.returns-in-Ok
unfolding profile_from
returns-in-Ok c =
    let e = sym c.stored.ensures ∙ c.ok_or.ensures.ok_part ∙ ap result_ok c.in_ok-made.was in
    sym (accepted read_profile 30 10 widths c.args.xs.now c.in_ok-made.made e _ (sym c.read_profile.ensures ∙ ap says c.in-Ok.is))
