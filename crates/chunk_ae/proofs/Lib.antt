pub mod EndLemmas
pub mod ValueLemmas
pub mod PeakLemmas
pub mod ScanLemmas
pub mod CutterLemmas
