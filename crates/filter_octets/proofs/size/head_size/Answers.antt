use mathlib.Core.Path.{sym}
use native.Mathlib.Omega.{arith}
use Rattle.filter_octets.proofs.Laws.Size.{head_two, head_three, head_four}
use Rattle.filter_octets.proofs.size.head_size.Goals as goal

pub returns-then-n-lt-ONE_OCTET_LIMIT : goal.returns-then-n-lt-ONE_OCTET_LIMIT
returns-then-n-lt-ONE_OCTET_LIMIT c =
    record {
      value = sym (head_two c.args.n (omega arith));
      upper_bound = omega arith;
    }

pub returns-then-n-lt-TWO_OCTETS_LIMIT : goal.returns-then-n-lt-TWO_OCTETS_LIMIT
returns-then-n-lt-TWO_OCTETS_LIMIT c =
    record {
      value = sym (head_three c.args.n (omega arith) (omega arith));
      upper_bound = omega arith;
    }

pub returns : goal.returns
returns c =
    record {
      value = sym (head_four c.args.n (omega arith));
      upper_bound = omega arith;
    }
