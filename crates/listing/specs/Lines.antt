-- The text of a listing.
use Rattle.std.specs.Prelude.{◌≡◌, ℕ, ◌<◌, ◌≤◌, cond, List, ◌++◌, length, Ok, Err, string_bytes, codes, decimal, Result, String, ◌==◌}
use Rattle.std.specs.declared.alloc.Global.{Global}
use Rattle.std.specs.List.{flat_map}
use Rattle.trace.specs.declared.records.Placed.{Placed}
use Rattle.trace.specs.declared.records.Refusal.{Refusal}
use Rattle.trace.specs.Names.{reason}
use Rattle.trace.specs.Reading.{Parses}
use Rattle.trace.specs.Refusals.{number}
use Rattle.listing.specs.declared.lines.ListFault.{ListFault}
use Rattle.listing.specs.declared.lines.ListFault.TheVariants.{TooLong, Memory}
use Rattle.listing.specs.Words.{words}

-- the line of a record: the place where it begins, and the record in words
abbrev pub line : Placed → List ℕ
line p = decimal p.at ++ (codes "  " ++ (words p.record ++ codes "\n"))

-- how many records there are
abbrev pub count_text : ℕ → List ℕ
count_text n = cond (n == 1) (codes "1 record\n") (decimal n ++ codes " records\n")

-- a refusal with its layer, the reader's, its number and its place
abbrev pub refusal_text : Refusal → List ℕ
refusal_text x = codes "fault r " ++ (decimal (number x.fault) ++ (codes " " ++ (decimal x.at ++ (codes ": " ++ (reason x.fault ++ codes "\n")))))

-- the last line
abbrev pub last : Result ℕ Refusal → List ℕ
last (Ok n) = count_text n
last (Err x) = refusal_text x

-- a text lists a trace: a line for each of its records, in order, and the last line
pub record Lists (trace text : List ℕ) : Type 0 where
  pub records : List Placed
  pub answer : Result ℕ Refusal
  pub parses : Parses trace records answer
  pub reads : text ≡ flat_map line records ++ last answer

-- what `list` may answer: a listing, or why there is none; it promises nothing about when memory runs out
abbrev pub Listed : List ℕ → Result (String Global) ListFault → Type 0
Listed trace (Ok text) = (length trace ≤ 4096) × Lists trace (string_bytes text)
Listed trace (Err TooLong) = 4096 < length trace
Listed trace (Err Memory) = length trace ≤ 4096
