-- The summary of the benchmark: what the texts of its steps and the rank lines of the last one come to.
use Rattle.std.specs.Prelude.{ℕ, suc, ◌+◌, ◌*◌, ◌%◌, ◌^◌, List, [], ◌++◌, length, sum_by, codes, decimal}
use Rattle.std.specs.List.{fold}
use Rattle.std.specs.Option.{option_map_or}
use Rattle.run_model.specs.declared.step_text.RankLine.{RankLine}
use Rattle.run_model.specs.Setup.{Setup}
use Rattle.run_model.specs.Run.{state}
use Rattle.run_model.specs.Text.{told, texts}
use Rattle.bench_summary.specs.declared.counts.Counts.{Counts}
use Rattle.bench_summary.specs.declared.tally.Tally.{Tally}

-- the digest after one more byte
abbrev pub next_digest : ℕ → ℕ → ℕ
next_digest digest byte = (digest * 1099511628211 + byte + 1) % 2 ^ 64

-- of bytes in order
abbrev pub digest : List ℕ → ℕ
digest bytes = fold next_digest 0 bytes

-- what the ranks have together, by their lines
abbrev pub counts_in : List RankLine → Counts
counts_in lines = record {
  groups = sum_by (λ line. line.groups) lines;
  listcells = sum_by (λ line. line.listcells) lines;
  listparts = sum_by (λ line. line.listparts) lines;
}

-- what is told of the texts of all steps, joined, and of the rank lines of the last step
abbrev pub tally_of : List ℕ → List RankLine → Tally
tally_of texts lines = record { counts = counts_in lines; bytes = length texts; digest = digest texts }

-- and of one more text, and the rank lines in it
abbrev pub tally_after : Tally → List ℕ → List RankLine → Tally
tally_after tally text lines = record {
  counts = counts_in lines;
  bytes = tally.bytes + length text;
  digest = fold next_digest tally.digest text;
}

-- a line that ends in a number
abbrev pub number_line : List ℕ → ℕ → List ℕ
number_line label number = label ++ decimal number ++ codes "\n"

-- the six lines
unfoldable pub summary_text : ℕ → ℕ → Tally → List ℕ
summary_text count seed tally =
    codes "bench particles " ++ decimal count ++ number_line (codes " seed ") seed
    ++ number_line (codes "groups ") tally.counts.groups
    ++ number_line (codes "listcells ") tally.counts.listcells
    ++ number_line (codes "listparts ") tally.counts.listparts
    ++ number_line (codes "bytes ") tally.bytes
    ++ number_line (codes "digest ") tally.digest

-- of so many particles from this seed, whose steps have these texts and whose last step has these rank lines
abbrev pub summary_of : ℕ → ℕ → List ℕ → List RankLine → List ℕ
summary_of count seed texts lines = summary_text count seed (tally_of texts lines)

-- the rank lines in the text of a step
abbrev pub rank_lines : Setup → ℕ → List RankLine
rank_lines u s = option_map_or (λ now. (told u s now).ranks) (state u s) []

-- of so many particles from this seed, whose run this is
abbrev pub run_summary : ℕ → ℕ → Setup → List ℕ
run_summary count seed u = summary_of count seed (texts u (suc u.steps)) (rank_lines u u.steps)
