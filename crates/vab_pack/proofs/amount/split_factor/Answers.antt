use Rattle.vab_pack.proofs.Numbers.{all_digits_of, no_factor}
use Rattle.vab_pack.proofs.amount.split_factor.Goals as goal

pub returns-in_default-strip_suffix-2-clause-digits :
    goal.returns-in_default-strip_suffix-2-clause-digits
unfolding lib.Utf8.encode
returns-in_default-strip_suffix-2-clause-digits c =
    all_digits_of c.args.text.now (record {
      kilo = c.in_default.ensures.cases;
      mega = c.in_default-strip_suffix.ensures.cases;
      giga = c.in_default-strip_suffix-2.ensures.cases;
    })

pub returns-in_default-strip_suffix-2-clause-factor :
    goal.returns-in_default-strip_suffix-2-clause-factor
unfolding lib.Utf8.encode
returns-in_default-strip_suffix-2-clause-factor c =
    no_factor c.args.text.now (record {
      kilo = c.in_default.ensures.cases;
      mega = c.in_default-strip_suffix.ensures.cases;
      giga = c.in_default-strip_suffix-2.ensures.cases;
    })
