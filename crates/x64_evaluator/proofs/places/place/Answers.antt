use Rattle.std.proofs.Common.{◌+◌, sym, ap, ◌∙◌, option_map}
use Rattle.x64_meaning.specs.Run.{is_label}
use Rattle.x64_evaluator.proofs.Sides.{ordered, place_in_front, place_in_back}
use Rattle.x64_evaluator.proofs.places.place.Goals as goal

pub place_back-requires : goal.place_back-requires
place_back-requires c = ordered c.args.at c.args.items.now c.split_at.result.0.now c.split_at.ensures.front c.requires.order

pub returns-in-Some : goal.returns-in-Some
returns-in-Some c =
    sym (place_in_front c.args.at c.args.items.now c.split_at.result.0.now c.split_at.ensures.front (is_label c.args.label) c.in-Some.k (sym c.in-Some.ensures))

pub returns-in_err-place_ahead-in-None : goal.returns-in_err-place_ahead-in-None
returns-in_err-place_ahead-in-None c =
    c.from_residual.ensures
    ∙ sym (place_in_back c.args.at c.args.items.now c.split_at.result.0.now c.split_at.ensures.front (is_label c.args.label) c.split_at.result.1.now c.split_at.ensures.back c.split_at.ensures.front_len (sym c.in-None.ensures)
    ∙ ap (option_map (λ n. c.args.at + n)) (sym c.in_err-place_ahead-in-None.ensures))

pub returns-in_ok-place_ahead-in-None : goal.returns-in_ok-place_ahead-in-None
returns-in_ok-place_ahead-in-None c =
    sym (place_in_back c.args.at c.args.items.now c.split_at.result.0.now c.split_at.ensures.front (is_label c.args.label) c.split_at.result.1.now c.split_at.ensures.back c.split_at.ensures.front_len (sym c.in-None.ensures)
    ∙ ap (option_map (λ n. c.args.at + n)) (sym c.in_ok-place_ahead-in-None.ensures))
