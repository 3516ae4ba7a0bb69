-- `words::same_text` meets its contract: texts of other lengths differ, and so do texts with a byte that differs.
use Rattle.std.proofs.Common.{length, sym, ap, ◌∙◌, rules, tests, arith}
use Rattle.std.proofs.lemmas.Iterator.{YieldsList-from_slice, YieldsList-from_zip}
use Rattle.std.proofs.lemmas.Iterator.Consumers.{YieldsList-at}
use Rattle.std.proofs.lemmas.Iterator.Search.{all_from_yields_List}
use lib.Dec.{eqb}
use Rattle.words.proofs.Comparisons.{same_ne, same_zipped}
use Rattle.words.proofs.same_text.Goals as goal

pub returns-then-part-text : goal.returns-then-part-text
returns-then-part-text c = sym (same_ne _ _ (λ e. omega (arith, ap length e)))

pub returns : goal.returns
returns c =
    all_from_yields_List (λ p. eqb p.0 p.1) c.all.new.self c.all.new.f c.all.result c.all.ensures.ran
    (YieldsList-from_zip (YieldsList-at c.zip.ensures.first (YieldsList-from_slice c.args.part.now (cc))) (YieldsList-from_slice c.args.text.now c.zip.ensures.second.0))
    (λ x b q k. search (rules, tests))
    ∙ same_zipped c.args.part.now c.args.text.now c.if-part-text.false
