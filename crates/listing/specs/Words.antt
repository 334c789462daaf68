-- Records in words.
use Rattle.std.specs.Prelude.{ℕ, ◌/◌, ◌%◌, ◌^◌, Bool, false, cond, not, ◌&&◌, List, [], ◌∷◌, ◌++◌, codes, decimal, ◌==◌, nat_lt}
use Rattle.std.specs.Fmt.{digit_glyph}
use Rattle.std.specs.List.{range_with_len, flat_map}
use Rattle.trace.specs.declared.letters.ObjectChoice.{ObjectChoice}
use Rattle.trace.specs.declared.letters.CriterionChoice.{CriterionChoice}
use Rattle.trace.specs.declared.letters.Level.{Level}
use Rattle.trace.specs.declared.records.Record.{Record}
use Rattle.trace.specs.declared.records.Record.TheVariants.{Call, Reply, Object, Criterion, Note}
use Rattle.trace.specs.declared.records.Record.TheVariants as sort
use Rattle.trace.specs.Letters as letter
use Rattle.trace.specs.Names.{name_of_object, name_of_criterion, name_of_level}

-- what a reply answers
abbrev pub answer : ℕ → ℕ → List ℕ
answer tag value =
    cond (tag == 0 && value == 0) (codes "nothing")
    (cond (tag == 1) (codes "number " ++ decimal value)
    (cond (tag == 2 && value == 0) (codes "false")
    (cond (tag == 2 && value == 1) (codes "true") (codes "tag " ++ (decimal tag ++ (codes " value " ++ decimal value))))))

-- an after field names operation i when its binary digit for 2 to the power i is 1
abbrev pub named : ℕ → ℕ → Bool
named after i = after / 2 ^ i % 2 == 1

-- the operations below n that an after field names, each behind a space
abbrev pub names_below : ℕ → ℕ → List ℕ
names_below n after = flat_map (λ i. cond (named after i) (codes " " ++ decimal i) []) (range_with_len 0 n)

-- all operations that an after field names
unfoldable pub names : ℕ → List ℕ
names after = cond (after == 0) (codes " none") (names_below 16 after)

-- printable ASCII, but for the quotation mark and the backslash
abbrev pub printing : ℕ → Bool
printing b = nat_lt 31 b && (nat_lt b 127 && (not (b == 34) && not (b == 92)))

-- a byte by its number: \x and two hexadecimal digits
abbrev pub numbered : ℕ → List ℕ
numbered b = codes "\\x" ++ (digit_glyph false (b / 16) ∷ digit_glyph false (b % 16) ∷ [])

-- a byte of a note: itself where it prints, else its number
abbrev pub escaped : ℕ → List ℕ
escaped b = cond (printing b) (b ∷ []) (numbered b)

-- a note's text between quotation marks
abbrev pub quoted : List ℕ → List ℕ
quoted text = 34 ∷ flat_map escaped text ++ 34 ∷ []

-- the words of each sort of record
abbrev pub call_text : ℕ → ℕ → ℕ → ℕ → ℕ → List ℕ
call_text thread kind a b after =
    codes "call: thread " ++ (decimal thread ++ (codes ", kind " ++ (decimal kind ++ (codes ", a " ++ (decimal a ++ (codes ", b " ++ (decimal b ++ (codes ", after" ++ names after))))))))

abbrev pub reply_text : ℕ → ℕ → ℕ → List ℕ
reply_text thread tag value = codes "reply: thread " ++ (decimal thread ++ (codes ", " ++ answer tag value))

abbrev pub object_text : ObjectChoice → List ℕ
object_text choice = codes "object: letter " ++ (letter.object choice ∷ codes ", " ++ name_of_object choice)

abbrev pub criterion_text : CriterionChoice → List ℕ
criterion_text choice = codes "criterion: letter " ++ (letter.criterion choice ∷ codes ", " ++ name_of_criterion choice)

abbrev pub level_text : ℕ → Level → List ℕ
level_text kind l = codes "level: kind " ++ (decimal kind ++ (codes " (letter " ++ (letter.level l ∷ codes ", " ++ (name_of_level l ++ codes ")"))))

abbrev pub note_text : List ℕ → List ℕ
note_text text = codes "note: " ++ quoted text

-- a record in words
abbrev pub words : Record → List ℕ
words (Call thread kind a b after) = call_text thread kind a b after
words (Reply thread tag value) = reply_text thread tag value
words (Object choice) = object_text choice
words (Criterion choice) = criterion_text choice
words (sort.Level kind l) = level_text kind l
words (Note text) = note_text text.now
