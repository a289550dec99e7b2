pub mod TypeTrees
