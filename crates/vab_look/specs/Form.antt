-- The two spellings of a line: words, or an object of JSON. No word has a quote or a backslash.
use Rattle.std.specs.Prelude.{ℕ, List, ◌++◌, codes, decimal}
use Rattle.vab_look.specs.declared.form.Form.{Form}
use Rattle.vab_look.specs.declared.form.Form.TheVariants.{Text, Json}

-- the begin of the line of a fact of this kind
abbrev pub begun : Form → List ℕ → List ℕ
begun Text kind = kind
begun Json kind = codes "{\"kind\":\"" ++ kind ++ codes "\""

abbrev pub json_key : List ℕ → List ℕ
json_key key = codes ",\"" ++ key ++ codes "\":"

abbrev pub quoted : List ℕ → List ℕ
quoted word = codes "\"" ++ word ++ codes "\""

-- a word without a key in a line of words, and one with it
abbrev pub word_in : Form → List ℕ → List ℕ → List ℕ
word_in Text key word = codes " " ++ word
word_in Json key word = json_key key ++ quoted word

abbrev pub keyed_in : Form → List ℕ → List ℕ → List ℕ
keyed_in Text key word = codes " " ++ key ++ codes " " ++ word
keyed_in Json key word = json_key key ++ quoted word

-- the same of a number
abbrev pub number_in : Form → List ℕ → ℕ → List ℕ
number_in Text key n = codes " " ++ decimal n
number_in Json key n = json_key key ++ decimal n

abbrev pub counted_in : Form → List ℕ → ℕ → List ℕ
counted_in Text key n = codes " " ++ key ++ codes " " ++ decimal n
counted_in Json key n = json_key key ++ decimal n

-- the end of a line
abbrev pub ended : Form → List ℕ
ended Text = codes "\n"
ended Json = codes "}\n"
