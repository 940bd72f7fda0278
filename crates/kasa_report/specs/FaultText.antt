-- The printed texts of faults: of a model, and of a file of tables.
use Rattle.std.specs.Prelude.{ℕ, List, [], ◌++◌, codes, decimal}
use Rattle.kasa_num.specs.declared.Place.{Place}
use Rattle.kasa_lexer.specs.declared.LexFault.{LexFault}
use Rattle.kasa_lexer.specs.declared.LexFault.TheVariants as lex
use Rattle.kasa_parser.specs.declared.ParseFault.{ParseFault}
use Rattle.kasa_parser.specs.declared.ParseFault.TheVariants as parse
use Rattle.kasa_sig.specs.declared.fault.SigFault.{SigFault}
use Rattle.kasa_sig.specs.declared.fault.SigFault.TheVariants as sig
use Rattle.kasa_compile.specs.declared.fault.CompileFault.{CompileFault}
use Rattle.kasa_compile.specs.declared.fault.CompileFault.TheVariants as compile
use Rattle.kasa_compile.specs.declared.fault.ModelFault.{ModelFault}
use Rattle.kasa_compile.specs.declared.fault.ModelFault.TheVariants as model
use Rattle.kasa_tabfile.specs.declared.fault.TabFault.{TabFault}
use Rattle.kasa_tabfile.specs.declared.fault.TabFault.TheVariants as tab
use Rattle.kasa_report.specs.Section.{line}

-- ---- of a model: its place and the name of its cause

unfoldable pub place_text : Place → List ℕ → List ℕ
place_text p cause = line (codes "model " ++ decimal p.line ++ codes ":" ++ decimal p.column ++ codes ": " ++ cause)

-- want of memory has a status of its own, and no text
abbrev pub lex_text : LexFault → List ℕ
lex_text (lex.BadByte p) = place_text p (codes "BadByte")
lex_text (lex.UnclosedComment p) = place_text p (codes "UnclosedComment")
lex_text (lex.UnclosedQuote p) = place_text p (codes "UnclosedQuote")
lex_text (lex.LongName p) = place_text p (codes "LongName")
lex_text lex.NoMemory = []

abbrev pub parse_text : ParseFault → List ℕ
parse_text (parse.Unexpected p) = place_text p (codes "Unexpected")
parse_text (parse.Tokens p) = place_text p (codes "Tokens")
parse_text (parse.Intervention p) = place_text p (codes "Intervention")
parse_text (parse.LongLabel p) = place_text p (codes "LongLabel")
parse_text parse.NoMemory = []

abbrev pub sig_text : SigFault → List ℕ
sig_text (sig.Twice p) = place_text p (codes "Twice")
sig_text (sig.TooManyTypes p) = place_text p (codes "TooManyTypes")
sig_text (sig.TooManySites p) = place_text p (codes "TooManySites")
sig_text (sig.TooManyStates p) = place_text p (codes "TooManyStates")
sig_text sig.NoMemory = []

abbrev pub compile_text : CompileFault → List ℕ
compile_text (compile.UnknownType p) = place_text p (codes "UnknownType")
compile_text (compile.UnknownSite p) = place_text p (codes "UnknownSite")
compile_text (compile.UnknownState p) = place_text p (codes "UnknownState")
compile_text (compile.SiteTwice p) = place_text p (codes "SiteTwice")
compile_text (compile.LabelNotTwice p) = place_text p (codes "LabelNotTwice")
compile_text (compile.TypeMismatch p) = place_text p (codes "TypeMismatch")
compile_text (compile.HalfBond p) = place_text p (codes "HalfBond")
compile_text (compile.BadRight p) = place_text p (codes "BadRight")
compile_text (compile.PartialInit p) = place_text p (codes "PartialInit")
compile_text (compile.TooManyNodes p) = place_text p (codes "TooManyNodes")
compile_text (compile.TooManyRules p) = place_text p (codes "TooManyRules")
compile_text (compile.TooManyInits p) = place_text p (codes "TooManyInits")
compile_text compile.NoMemory = []

abbrev pub model_fault_text : ModelFault → List ℕ
model_fault_text (model.Lex f) = lex_text f
model_fault_text (model.Parse f) = parse_text f
model_fault_text (model.Sig f) = sig_text f
model_fault_text (model.Compile f) = compile_text f
model_fault_text model.NoMemory = []

-- ---- of a file of tables: its line and the name of its cause

unfoldable pub numbered : ℕ → List ℕ → List ℕ
numbered n cause = line (codes "tables " ++ decimal n ++ codes ": " ++ cause)

abbrev pub tables_fault_text : TabFault → List ℕ
tables_fault_text (tab.BadLine n) = numbered n (codes "BadLine")
tables_fault_text (tab.BadFamily n) = numbered n (codes "BadFamily")
tables_fault_text (tab.FamilyTwice n) = numbered n (codes "FamilyTwice")
tables_fault_text (tab.TooManyFamilies n) = numbered n (codes "TooManyFamilies")
tables_fault_text (tab.BadRow n) = numbered n (codes "BadRow")
tables_fault_text (tab.RowTwice n) = numbered n (codes "RowTwice")
tables_fault_text (tab.TooManyRows n) = numbered n (codes "TooManyRows")
tables_fault_text tab.NoEnd = codes "tables: NoEnd\n"
tables_fault_text tab.NoMemory = []
