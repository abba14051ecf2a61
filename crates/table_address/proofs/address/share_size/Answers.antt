use Rattle.table_address.proofs.Laws.Address.{share_whole, share_shift}
use Rattle.table_address.proofs.address.share_size.Goals as goal

pub returns-then-prefix-ge-ADDRESS_BITS : goal.returns-then-prefix-ge-ADDRESS_BITS
returns-then-prefix-ge-ADDRESS_BITS c = share_whole c.args.prefix c.if-prefix-ge-ADDRESS_BITS.true

pub returns : goal.returns
returns c = share_shift c.args.prefix
