-- What writing at an offset leaves in a lent buffer.
use Rattle.std.specs.Prelude.{List, ◌++◌, ℕ, take, drop}
use Rattle.octets.specs.Buffer.{over}

-- octets laid over a buffer's octets from an offset on; the others stay as they were
unfoldable pub over_at : ℕ → List ℕ → List ℕ → List ℕ
over_at at xs d = take at d ++ over xs (drop at d)
