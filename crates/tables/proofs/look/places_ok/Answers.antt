-- `tables::look::places_ok` meets its contract: `all` tests each place.
use mathlib.Core.Path.{refl, ◌∙◌}
use borrow.Author.Tests.{tests}
use Rattle.std.proofs.Common.{rules, ℕ}
use Rattle.std.proofs.lemmas.Iterator.{YieldsList-from_slice}
use Rattle.std.proofs.lemmas.Iterator.Consumers.{YieldsList-from_enumerate, YieldsList-at}
use Rattle.std.proofs.lemmas.Iterator.Search.{all_from_yields_List}
use Rattle.tables.specs.Sizes.{places}
use Rattle.tables.specs.State.{place_ok, place_at, places_ok}
use Rattle.tables.proofs.Every.{every-numbered}
use Rattle.tables.proofs.look.places_ok.Goals as goal

pub returns : goal.returns
unfolding places_ok
returns c =
    let test = λ (p : ℕ × ℕ). place_ok c.args.n c.args.waiting p.0 p.1 in
    all_from_yields_List test _ _ _ c.all.ensures.ran
    (YieldsList-from_enumerate (YieldsList-at c.enumerate.ensures.source (YieldsList-from_slice _ c.iter.ensures.rest)) c.enumerate.ensures.count) (λ x b q k. search (rules, tests))
    ∙ every-numbered test (place_at c.args.n c.args.waiting c.args.pays.now) 0 c.args.pays.now places c.requires (λ k h. refl)
