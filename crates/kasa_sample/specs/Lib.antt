pub mod SampleText
